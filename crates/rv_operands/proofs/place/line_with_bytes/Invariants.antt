use Rattle.std.proofs.Common.{◌≡◌}
use Rattle.rv_asm.specs.Seen.{seen}
use Rattle.rv_operands.specs.Operands.{line_with_bytes}
use Rattle.rv_operands.proofs.place.line_with_bytes.Given as goal

abbrev pub invariant-loop-line : goal.invariant-loop-line
invariant-loop-line l = line_with_bytes (seen l.fn.listing) l.fn.from ≡ line_with_bytes (seen l.listing) l.line
