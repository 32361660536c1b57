use Rattle.rv_why.proofs.LastSought.{Following}
use Rattle.rv_why.proofs.writes.find_last.Given as goal

abbrev pub invariant-loop-done : goal.invariant-loop-done
invariant-loop-done l = Following l.sought l.fn.run l.run l.found l.done
