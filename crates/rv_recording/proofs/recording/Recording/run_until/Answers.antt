use Rattle.std.proofs.Common.{rules, arith, refl}
use Rattle.rv_monitor.proofs.Reached.{in_time}
use Rattle.rv_recording.proofs.Running.{before_is, begins, over_before, goes_on, ended, limit, refused, end_is}
use Rattle.rv_recording.proofs.recording.Recording.run_until.Goals as goal

pub returns-in-Some-clause-ok : goal.returns-in-Some-clause-ok
returns-in-Some-clause-ok c =
    let now = in_time _ _ c.session.ensures.reached in
    over_before c.args.self.now now (before_is c.args.self.now.session now) (first_of (search rules, cc))

pub loop-done-init : goal.loop-done-init
loop-done-init c =
    let now = in_time _ _ c.session.ensures.reached in
    begins now (before_is c.args.self.now.session now) (first_of (search rules, cc)) refl

pub loop-done-preserved : goal.loop-done-preserved
loop-done-preserved c = goes_on c.loop-done.invariant _ (end_is c.args.condition c.loop-done.invariant) refl
    (rw c.in-Ok-None.field-0-is at c.in-Ok-None.ensures.took)

pub returns-in-Ok-Some-clause-ok : goal.returns-in-Ok-Some-clause-ok
returns-in-Ok-Some-clause-ok c = ended c.loop-done.invariant (end_is c.args.condition c.loop-done.invariant)
    (omega arith) (rw c.in-Ok-Some.field-0-is at c.in-Ok-Some.ensures.took)

pub returns-in-Err-clause-err : goal.returns-in-Err-clause-err
returns-in-Err-clause-err c =
    refused c.loop-done.invariant (omega arith) c.in-Err.ensures.took.0 c.in-Err.ensures.took.1

pub returns-clause-ok : goal.returns-clause-ok
returns-clause-ok c = limit (omega arith) c.loop-done.invariant
