use Rattle.std.proofs.Common.{◌≡◌, ◌++◌, drop}
use Rattle.rv_source.specs.Operands.{strings}
use Rattle.rv_source.proofs.statement.Strings.append_to.Given as goal

abbrev pub invariant-loop-operand : goal.invariant-loop-operand
invariant-loop-operand l = l.out.items ++ strings l.self-inside.terminated (drop l.operand-index l.operand-items)
    ≡ l.initial.out.items ++ l.self
