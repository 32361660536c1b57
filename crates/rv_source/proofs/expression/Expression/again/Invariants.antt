use Rattle.std.proofs.Common.{◌≡◌, ◌++◌, drop}
use Rattle.rv_source.proofs.expression.Expression.again.Given as goal

abbrev pub invariant-loop-term : goal.invariant-loop-term
invariant-loop-term l = l.more.items ++ drop l.term-index l.rest ≡ l.rest
