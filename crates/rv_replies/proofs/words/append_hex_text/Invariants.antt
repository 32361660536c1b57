use Rattle.std.proofs.Common.{◌≡◌, ◌++◌, drop}
use Rattle.rv_replies.specs.Texts.{digits}
use Rattle.rv_replies.proofs.words.append_hex_text.Given as goal

abbrev pub invariant-loop-byte : goal.invariant-loop-byte
invariant-loop-byte l = l.out.items ++ digits (drop l.byte-index l.bytes) ≡ l.fn.out.items ++ digits l.bytes
