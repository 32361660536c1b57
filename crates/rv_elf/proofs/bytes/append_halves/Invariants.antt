use Rattle.std.proofs.Common.{◌≡◌, ◌++◌, drop}
use Rattle.rv_elf.specs.Support.Written.{halves}
use Rattle.rv_elf.proofs.bytes.append_halves.Given as goal

abbrev pub invariant-loop-half : goal.invariant-loop-half
invariant-loop-half l = l.out.items ++ halves (drop l.half-index l.numbers) ≡ l.fn.out.items ++ halves l.numbers
