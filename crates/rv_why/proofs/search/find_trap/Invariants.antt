use Rattle.rv_why.proofs.Told.{Searching}
use Rattle.rv_why.proofs.search.find_trap.Given as goal

abbrev pub invariant-loop-done : goal.invariant-loop-done
invariant-loop-done l = Searching l.fn.run l.run l.found l.done
