use Rattle.std.proofs.Common.{◌≡◌, ◌≤◌, ◌+◌, drop, length, min}
use Rattle.rv_source.specs.Operands.{strings}
use Rattle.rv_source.proofs.statement.Strings.size.Given as goal

abbrev pub invariant-loop-operand : goal.invariant-loop-operand
invariant-loop-operand l = (l.size ≤ 0xffffffff)
    × (min (l.size + length (strings l.self-inside.terminated (drop l.operand-index l.operand-items))) 0xffffffff
    ≡ min (length l.self) 0xffffffff)
