use Rattle.rv_runs.proofs.Parts.{fewer, goes_on, in_time, over}
use Rattle.rv_runs.proofs.Watching.{one_step, watch_part, watch_short}
use Rattle.rv_runs.proofs.run.run_watching.Goals as goal

pub returns-in_err-end : goal.returns-in_err-end
returns-in_err-end c =
    watch_short c.args.watches.now c.args.marks.now c.min.ensures c.loop-end.invariant c.from_residual.result
    c.from_residual.ensures.0 c.in_err-end.ensures.ran

pub returns-in-Some : goal.returns-in-Some
returns-in-Some c =
    over c.loop-end.invariant (watch_part c.args.watches.now c.args.marks.now c.min.ensures (in_time c.loop-end.invariant)
    c.in_ok-end.ensures.ran c.in_ok-end.ensures.changes c.stop_here.ensures) c.in-Some.last c.in-Some.is

pub loop-end-smaller : goal.loop-end-smaller
loop-end-smaller c =
    let part = watch_part c.args.watches.now c.args.marks.now c.min.ensures (in_time c.loop-end.invariant)
    c.in_ok-end.ensures.ran c.in_ok-end.ensures.changes c.stop_here.ensures in
    fewer c.loop-end.invariant part c.in_default.is _
    (one_step _ _ _ _ c.min.ensures c.saturating_sub-left.ensures (part.on c.in_default.is).1)

pub loop-end-preserved : goal.loop-end-preserved
loop-end-preserved c =
    let part = watch_part c.args.watches.now c.args.marks.now c.min.ensures (in_time c.loop-end.invariant)
    c.in_ok-end.ensures.ran c.in_ok-end.ensures.changes c.stop_here.ensures in
    goes_on c.loop-end.invariant part c.in_default.is _
    (one_step _ _ _ _ c.min.ensures c.saturating_sub-left.ensures (part.on c.in_default.is).1)
