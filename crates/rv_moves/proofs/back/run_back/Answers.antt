use Rattle.std.proofs.Common.{rules, arith, refl}
use Rattle.rv_moves.proofs.Looking.{backs_none, backs_on, goes_to}
use Rattle.rv_moves.proofs.back.run_back.Goals as goal

pub returns-in-Some-clause-found : goal.returns-in-Some-clause-found
returns-in-Some-clause-found c = search (rules, arith)

pub returns-in-Some-clause-state : goal.returns-in-Some-clause-state
returns-in-Some-clause-state c = goes_to c.loop-high.invariant.0 (rw c.in-Some.is at c.in_ok-stop.ensures.looked)
    refl (first_of (search rules, cc))

pub loop-high-preserved : goal.loop-high-preserved
loop-high-preserved c = (
  backs_on c.loop-high.invariant.0 (rw c.in_default.is at c.in_ok-stop.ensures.looked) refl c.in_ok-stop.ensures.all
      (omega (arith, c.saturating_sub-low.ensures)),
  first_of (omega arith, search rules),
)

pub returns-clause-found : goal.returns-clause-found
returns-clause-found c = backs_none c.loop-high.invariant.0 (omega arith)
