use Rattle.std.proofs.Common.{◌≡◌, ◌++◌, drop}
use Rattle.std.specs.Prelude.{map}
use Rattle.rv_asm.specs.Support.Steps.{expression_of}
use Rattle.rv_asm.proofs.kept.sums_of.Given as goal

abbrev pub invariant-loop-operand : goal.invariant-loop-operand
invariant-loop-operand l =
    l.sums.items ++ map expression_of (drop l.operand-index l.operands) ≡ map expression_of l.operands
