use Rattle.rv_timeline.proofs.Inserted.{at_place}
use Rattle.rv_timeline.proofs.timeline.place_of.Goals as goal

pub returns-clause-place : goal.returns-clause-place
returns-clause-place c x is = at_place _ _ _ _ x c.unwrap_or.ensures c.first_after.ensures.value is
