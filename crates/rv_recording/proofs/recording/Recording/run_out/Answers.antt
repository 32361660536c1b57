use Rattle.std.proofs.Common.{rules, ◌∙◌, arith, refl}
use Rattle.rv_monitor.proofs.Reached.{in_time}
use Rattle.rv_recording.specs.Out.{open_at}
use Rattle.rv_recording.proofs.Running.{before_is, begins, ended, goes_on, limit, number_ended, number_limit, number_refused, open_suc, out_is, over_before, refused}
use Rattle.rv_recording.proofs.recording.Recording.run_out.Goals as goal

pub returns-in-Some-clause-ok : goal.returns-in-Some-clause-ok
returns-in-Some-clause-ok c =
    let now = in_time _ _ c.session.ensures.reached in
    over_before c.args.self.now now (before_is c.args.self.now.session now) (first_of (search rules, cc))

pub returns-in-Some-clause-calls : goal.returns-in-Some-clause-calls
unfolding open_at
returns-in-Some-clause-calls c = search (rules, arith)

pub loop-done-init : goal.loop-done-init
unfolding open_at
loop-done-init c =
    let now = in_time _ _ c.session.ensures.reached in
    begins now (before_is c.args.self.now.session now) (first_of (search rules, cc)) refl

pub loop-done-preserved : goal.loop-done-preserved
loop-done-preserved c =
    goes_on c.loop-done.invariant _ (out_is _ _ c.loop-done.invariant c.in-Ok-None.ensures.count)
    (open_suc _ _ c.loop-done.invariant c.in-Ok-None.ensures.count)
    (rw c.in-Ok-None.field-0-is at c.in-Ok-None.ensures.took)

pub returns-in-Ok-Some-clause-ok : goal.returns-in-Ok-Some-clause-ok
returns-in-Ok-Some-clause-ok c =
    ended c.loop-done.invariant (out_is _ _ c.loop-done.invariant c.in-Ok-Some.ensures.count) (omega arith)
    (rw c.in-Ok-Some.field-0-is at c.in-Ok-Some.ensures.took)

pub returns-in-Ok-Some-clause-calls : goal.returns-in-Ok-Some-clause-calls
returns-in-Ok-Some-clause-calls c =
    number_ended c.loop-done.invariant (open_suc _ _ c.loop-done.invariant c.in-Ok-Some.ensures.count)
    c.in-Ok-Some.ensures.took

pub returns-in-Err-clause-err : goal.returns-in-Err-clause-err
returns-in-Err-clause-err c =
    refused c.loop-done.invariant (omega arith) c.in-Err.ensures.took.0 c.in-Err.ensures.took.1

pub returns-in-Err-clause-calls : goal.returns-in-Err-clause-calls
returns-in-Err-clause-calls c = c.in-Err.ensures.refused ∙ number_refused c.loop-done.invariant c.in-Err.ensures.took.0

pub returns-clause-ok : goal.returns-clause-ok
returns-clause-ok c = limit (omega arith) c.loop-done.invariant

pub returns-clause-calls : goal.returns-clause-calls
returns-clause-calls c = number_limit c.loop-done.invariant
