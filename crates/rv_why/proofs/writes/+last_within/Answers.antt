use Rattle.std.proofs.Common.{◌∙◌, ◌-◌, sym, arith}
use Rattle.rv_why.proofs.LastSought.{last_near, near_running, near_taken}
use Rattle.rv_why.proofs.writes.+last_within.Goals as goal

pub find_last-requires-clause-running : goal.find_last-requires-clause-running
find_last-requires-clause-running t c = near_running c.args.recording.now c.session.ensures.reached _
    c.in_ok-run.ensures.timed (omega (arith, c.requires, c.in_ok-run.ensures.within))

pub find_last-requires-clause-room : goal.find_last-requires-clause-room
find_last-requires-clause-room t c =
    let none = near_taken c.args.recording.now c.session.ensures.reached _ c.in_ok-run.ensures.timed in
    omega (arith, none, c.requires, c.in_ok-run.ensures.within, c.in_ok-run.ensures.limit)

pub returns-in-Some-clause-last : goal.returns-in-Some-clause-last
returns-in-Some-clause-last t c = sym (last_near c.args.recording.now c.session.ensures.reached _
    c.in_ok-run.ensures.timed _ _ _ (omega (arith, c.in_ok-run.ensures.within)) (sym c.in-Some.is ∙ c.in_ok-done.ensures.last))

pub returns-clause-last : goal.returns-clause-last
returns-clause-last t c = rw (last_near c.args.recording.now c.session.ensures.reached c.in_ok-run.before
    c.in_ok-run.ensures.timed c.args.sought (c.args.steps - c.in_ok-run.before) c.args.steps
    (omega (arith, c.in_ok-run.ensures.within)) (sym c.in-None.is ∙ c.in_ok-done.ensures.last)) c.last_within.ensures.last
