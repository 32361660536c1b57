use Rattle.std.proofs.Common.{rules, arith}
use Rattle.rv_monitor.proofs.Reached.{in_time}
use Rattle.rv_recording.proofs.Running.{limit, number_limit}
use Rattle.rv_moves.specs.Runs.{open_in}
use Rattle.rv_moves.proofs.Advancing.{advances, begins, ends_run, number_after, over}
use Rattle.rv_moves.proofs.forward.run.Goals as goal

pub returns-in-Some-clause-ok : goal.returns-in-Some-clause-ok
returns-in-Some-clause-ok c =
    over _ _ _ c.args.recording.now (in_time _ _ c.session.ensures.reached) (first_of (search rules, cc))

pub returns-in-Some-clause-calls : goal.returns-in-Some-clause-calls
unfolding open_in
returns-in-Some-clause-calls c = search (rules, arith)

pub loop-done-init : goal.loop-done-init
loop-done-init c =
    begins _ _ _ c.args.recording.now (in_time _ _ c.session.ensures.reached) (first_of (search rules, cc))

pub returns-in-Some-end_here-clause-ok : goal.returns-in-Some-end_here-clause-ok
returns-in-Some-end_here-clause-ok c = ends_run _ _ _ c.loop-done.invariant c.in_ok-take_step.ensures.state
    c.in_ok-take_step.ensures.calls (omega arith) (first_of (search rules, cc))

pub returns-in-Some-end_here-clause-calls : goal.returns-in-Some-end_here-clause-calls
returns-in-Some-end_here-clause-calls c =
    number_after _ _ _ c.loop-done.invariant c.in_ok-take_step.ensures.state c.in_ok-take_step.ensures.calls

pub loop-done-preserved : goal.loop-done-preserved
loop-done-preserved c = advances _ _ _ c.loop-done.invariant c.in_ok-take_step.ensures.state c.in_ok-take_step.ensures.calls
    (first_of (search rules, cc))

pub returns-clause-ok : goal.returns-clause-ok
returns-clause-ok c = limit (omega arith) c.loop-done.invariant

pub returns-clause-calls : goal.returns-clause-calls
returns-clause-calls c = number_limit c.loop-done.invariant
