use Rattle.std.proofs.Common.{◌≤◌, arith, rules}
use Rattle.rv_moves.proofs.Looking.{looked_none, looks_on, looks_some, went_back}
use Rattle.rv_moves.proofs.back.look_from.Goals as goal

pub loop-recording-init : goal.loop-recording-init
loop-recording-init c =
    looked_none c.args.watches.now c.args.from (omega arith) (omega arith) c.in_ok-go_back.ensures.ok

pub look-requires-clause-back : goal.look-requires-clause-back
look-requires-clause-back c =
    let room : c.args.recording.now.session.timed.taken ≤ c.args.recording.now.session.limit =
    first_of (search rules, omega arith) in
    went_back c.args.recording.now _ c.loop-recording.invariant.state
    (λ i l. c.session.ensures.reached.running i (omega (arith, l, c.requires.within)))
    (omega (arith, room, c.requires.within))

pub loop-recording-preserved-in-Some : goal.loop-recording-preserved-in-Some
loop-recording-preserved-in-Some c =
    looks_some c.loop-recording.invariant (rw c.in-Some.is at c.in_ok-stop.ensures.0)

pub loop-recording-preserved : goal.loop-recording-preserved
loop-recording-preserved c = looks_on c.loop-recording.invariant (rw c.in_default.is at c.in_ok-stop.ensures.0)
    c.in_ok-stop.ensures.1
