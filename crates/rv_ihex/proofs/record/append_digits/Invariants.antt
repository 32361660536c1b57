use Rattle.std.proofs.Common.{◌≡◌, ◌++◌, drop}
use Rattle.rv_ihex.specs.Support.Written.{digits}
use Rattle.rv_ihex.proofs.record.append_digits.Given as goal

abbrev pub invariant-loop-byte : goal.invariant-loop-byte
invariant-loop-byte l = l.out.items ++ digits (drop l.byte-index l.bytes) ≡ l.fn.out.items ++ digits l.bytes
