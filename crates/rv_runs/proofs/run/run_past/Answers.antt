use Rattle.std.proofs.Common.{refl, rules}
use Rattle.rv_runs.proofs.Parts.{fewer, goes_on, in_time, over}
use Rattle.rv_runs.proofs.Passing.{past_part, past_short}
use Rattle.rv_runs.proofs.run.run_past.Goals as goal

pub returns-in_err-end : goal.returns-in_err-end
returns-in_err-end c =
    past_short c.args.marks.now c.loop-end.invariant c.from_residual.result c.from_residual.ensures.0 c.in_err-end.ensures

pub returns-in-Some : goal.returns-in-Some
returns-in-Some c =
    over c.loop-end.invariant (past_part c.args.marks.now (in_time c.loop-end.invariant) c.in_ok-end.ensures
    c.session-in-loop-end.ensures.value c.past_here.ensures.hits c.past_here.ensures.end refl) c.in-Some.last c.in-Some.is

pub loop-end-smaller : goal.loop-end-smaller
loop-end-smaller c =
    fewer c.loop-end.invariant (past_part c.args.marks.now (in_time c.loop-end.invariant) c.in_ok-end.ensures
    c.session-in-loop-end.ensures.value c.past_here.ensures.hits c.past_here.ensures.end (search rules)) c.in_default.is _
    c.saturating_sub-left.ensures

pub loop-end-preserved : goal.loop-end-preserved
loop-end-preserved c =
    goes_on c.loop-end.invariant (past_part c.args.marks.now (in_time c.loop-end.invariant) c.in_ok-end.ensures
    c.session-in-loop-end.ensures.value c.past_here.ensures.hits c.past_here.ensures.end (search rules)) c.in_default.is _
    c.saturating_sub-left.ensures
