-- To audit: public contracts cite this.
-- What a request leaves of a target, and what it appends to what is sent, one row a request: what isn't named here leaves
-- the target as it was, and so does a packet that is malformed or unknown.
use Rattle.std.specs.Prelude.{◌≡◌, ℕ, ◌-◌, ◌==◌, ◌++◌, true, false, List, Option, Some, None, codes, if◌then◌else◌, is_some, MatchOption}
use Rattle.std.specs.Option.{option_map_or}
use Rattle.rv_monitor.specs.State.{with_break, without_break}
use Rattle.rv_lab.specs.Commands.{stepped}
use Rattle.rv_lab.specs.State.{board}
use Rattle.rv_moves.specs.Watches.{with_watch, without_watch}
use Rattle.rv_moves.specs.declared.forward.Aim.TheVariants.{Stop, Outside}
use Rattle.rv_moves.specs.declared.watch.Watch.{Watch}
use Rattle.rv_packets.specs.Items.{framed}
use Rattle.rv_replies.specs.Looks.{look_text}
use Rattle.rv_requests.specs.declared.request.Point.{Point}
use Rattle.rv_requests.specs.declared.request.Point.TheVariants.{Break, Store, Load, Access}
use Rattle.rv_requests.specs.declared.request.Request.{Request}
use Rattle.rv_replies.specs.declared.stops.Reason.TheVariants.{Plain}
use Rattle.rv_requests.specs.declared.request.Request.TheVariants.{Step, StepWithin, Continue, StepBack, ContinueBack, Insert, Remove, Run, Command, ThreadText, Detach, End, Answered}
use Rattle.rv_gdb.specs.Moves.{IsPacket, Lands, back_reason, begin_reason, landed, last_stop_of, met_before, met_next, ran_back, state_packet, step_reason, stop_packets, taken, watch_reason, went_back, with_aim, with_session}
use Rattle.rv_gdb.specs.Target.{TargetState, thread_text, with_console, with_recording}
use Rattle.rv_gdb.specs.declared.served.Then.{Then}
use Rattle.rv_gdb.specs.declared.served.Then.TheVariants.{Waits, Runs, Ends}

-- the watch that a point is; a breakpoint is none
abbrev pub watch_of : Point → (address size : ℕ) → Option Watch
watch_of Break address size = None
watch_of Store address size = Some (record { stores = true; loads = false; address = address; size = size })
watch_of Load address size = Some (record { stores = false; loads = true; address = address; size = size })
watch_of Access address size = Some (record { stores = true; loads = true; address = address; size = size })

-- a target with a point more, and with one less: the breakpoint where a trap without a handler leads stays
abbrev pub inserted : Point → (address size : ℕ) → TargetState → TargetState
inserted point address size t = option_map_or
    (λ w. record t { watches = with_watch w t.watches })
    (watch_of point address size) (with_session t (with_break t.lab.recording.session address))

abbrev pub removed : Point → (address size : ℕ) → TargetState → TargetState
removed point address size t = option_map_or
    (λ w. record t { watches = without_watch w t.watches })
    (watch_of point address size)
    (if address == 0 then t else with_session t (without_break t.lab.recording.session address))

-- no move goes past an access to watched bytes: it ends before the step, or before it is undone, and gdb, which takes the
-- watches away for that, takes the step itself. Else a step; a run until the pc leaves some addresses; a run; a step back;
-- a run back; a point; the program again
unfoldable pub Serves : Request → (old new : TargetState) → Type 0
Serves Step old new =
    new ≡ (if is_some (met_next old) then with_console old
    else landed (with_recording old (stepped old.lab.recording)))
Serves (StepWithin from to) old new =
    new ≡ (if is_some (met_next old) then with_console old else with_aim (Outside from to) old)
Serves Continue old new = new ≡ with_aim Stop old
Serves StepBack old new = new ≡ (if is_some (met_before old) then old else went_back old (taken old - 1))
Serves ContinueBack old new = new ≡ ran_back old
Serves (Insert point address size) old new = new ≡ inserted point address size old
Serves (Remove point address size) old new = new ≡ removed point address size old
Serves Run old new = new ≡ went_back old 0
Serves request old new = new ≡ old

-- what follows a request: the next one, a run, or nothing, since the talk is over
unfoldable pub then_of : Request → TargetState → Then
then_of (StepWithin from to) t = if is_some (met_next t) then Waits else Runs
then_of Continue t = Runs
then_of Detach t = Ends
then_of End t = Ends
then_of request t = Waits

-- ---- what is told

-- the reply to a request that leaves the target as it was: what it asks for, or else that it is agreed to
abbrev pub Replies : Request → TargetState → (before after : List ℕ) → Type 0
Replies request t before after = MatchOption (look_text request (board t.lab) t.files)
    (after ≡ before ++ framed (codes "OK")) (λ text. after ≡ before ++ framed text)

-- a step's stop: before an access to watched bytes, or where the step leads
abbrev pub StepSays : TargetState → (before after : List ℕ) → Type 0
StepSays t before after = MatchOption (met_next t)
    (let new = with_recording t (stepped t.lab.recording) in Lands (step_reason new) new before after)
    (λ w. after ≡ before ++ stop_packets 5 (watch_reason w) t)

-- what a request appends to what is sent, one row a request. A run's stop isn't told before the run is over
unfoldable pub Says : Request → (old new : TargetState) → (before after : List ℕ) → Type 0
Says Step old new before after = StepSays old before after
Says (StepWithin from to) old new before after = MatchOption (met_next old)
    (after ≡ before) (λ w. after ≡ before ++ stop_packets 5 (watch_reason w) old)
Says Continue old new before after = after ≡ before
Says StepBack old new before after = MatchOption (met_before old)
    (after ≡ before ++ state_packet 5 (begin_reason old) new)
    (λ w. after ≡ before ++ state_packet 5 (watch_reason w) old)
Says ContinueBack old new before after = after ≡ before ++ state_packet 5 (back_reason (last_stop_of old)) new
Says (Insert point address size) old new before after = after ≡ before ++ framed (codes "OK")
Says (Remove point address size) old new before after = after ≡ before ++ framed (codes "OK")
Says Run old new before after = after ≡ before ++ state_packet 5 Plain new
Says (Command line) old new before after = IsPacket before after
Says ThreadText old new before after = after ≡ before ++ framed (thread_text (board old.lab))
Says Detach old new before after = after ≡ before ++ framed (codes "OK")
Says End old new before after = after ≡ before
Says (Answered stops) old new before after = after ≡ before
Says request old new before after = Replies request old before after
