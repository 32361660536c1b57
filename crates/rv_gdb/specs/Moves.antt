-- To audit: public contracts cite this.
-- The moves of a target, and what gdb is told of their ends (Debugging with GDB, appendix "GDB Remote Serial Protocol",
-- "Stop Reply Packets"; the numbers of the signals are gdb's).
use Rattle.std.specs.Prelude.{◌≡◌, ℕ, ◌-◌, ◌==◌, ◌||◌, ◌&&◌, ◌++◌, Bool, true, false, List, if◌then◌else◌, is_none, is_some, min, MatchOption, Option, Some, None}
use Rattle.std.specs.FinSet as set
use Rattle.std.specs.Option.{option_map_or}
use Rattle.rv_board.specs.BoardState.{BoardState}
use Rattle.rv_hart.specs.declared.trap.Outcome.{Outcome}
use Rattle.rv_hart.specs.declared.trap.Outcome.TheVariants.{Trapped}
use Rattle.rv_hart.specs.Step.{step}
use Rattle.rv_monitor.specs.State.{SessionState, with_due}
use Rattle.rv_monitor.specs.Stops.{may_step}
use Rattle.rv_recording.specs.Recording.{gone_back}
use Rattle.rv_recording.specs.declared.until.End.{End}
use Rattle.rv_recording.specs.declared.until.End.TheVariants.{Limit, Stuck}
use Rattle.rv_lab.specs.State.{board}
use Rattle.rv_moves.specs.Back.{first_state, last_stop, left_by}
use Rattle.rv_moves.specs.Runs.{open_for, reached, run_ends}
use Rattle.rv_moves.specs.Watches.{met}
use Rattle.rv_moves.specs.declared.back.Back.{Back}
use Rattle.rv_moves.specs.declared.forward.Aim.{Aim}
use Rattle.rv_moves.specs.declared.watch.Watch.{Watch}
use Rattle.rv_packets.specs.Items.{framed}
use Rattle.rv_replies.specs.Texts.{state_text}
use Rattle.rv_replies.specs.declared.stops.Reason.{Reason}
use Rattle.rv_replies.specs.declared.stops.Reason.TheVariants as reason
use Rattle.rv_replies.specs.declared.stops.Reason.TheVariants.{Plain, Breakpoint, Stored, Loaded, Accessed, Begin}
use Rattle.rv_gdb.specs.Target.{TargetState, console_text, moved, note_packet, with_console, with_recording}

-- ---- stops

-- the signal of a trap by its cause: SIGBUS, SIGSEGV, SIGILL, SIGSYS, and else SIGTRAP
abbrev pub signal_of : ℕ → ℕ
signal_of cause =
    if (cause == 0) || (cause == 4) || (cause == 6) then 10
    else if (cause == 1) || (cause == 5) || (cause == 7) then 11
    else if cause == 2 then 4
    else if (cause == 8) || (cause == 11) then 12
    else 5

-- whether a board stands where a trap without a handler leads: mtvec is 0 at reset, and there is no memory
abbrev pub is_lost : BoardState → Bool
is_lost b = is_none b.machine.bus.halt && (b.machine.pc == 0)

-- the packet of a stop by a signal, or of the end of the program
abbrev pub state_packet : ℕ → Reason → TargetState → List ℕ
state_packet signal reason t =
    framed (state_text signal reason (board t.lab))

-- that, after what the console got
abbrev pub stop_packets : ℕ → Reason → TargetState → List ℕ
stop_packets signal reason t = console_text t ++ state_packet signal reason t

-- a packet with some text for the console, and one with whatever it has, after some bytes
unfoldable pub Notes : (before after : List ℕ) → Type 0
Notes before after = (text : List ℕ) × (after ≡ before ++ note_packet text)

unfoldable pub IsPacket : (before after : List ℕ) → Type 0
IsPacket before after = (contents : List ℕ) × (after ≡ before ++ framed contents)

-- ---- moves

abbrev pub taken : TargetState → ℕ
taken t = t.lab.recording.session.timed.taken

-- the target gone back to after the first n steps, if more were taken
abbrev pub went_back : TargetState → ℕ → TargetState
went_back t n = moved t (gone_back t.lab.recording (min n (taken t)))

-- what the next step does, if there is one
abbrev pub next_outcome : SessionState → Option Outcome
next_outcome s = if may_step s then Some (step (with_due s.timed).board.machine).1 else None

-- the cause of a trap
unfoldable pub trap_cause : Option Outcome → Option ℕ
trap_cause (Some (Trapped cause epc tval)) = Some cause
trap_cause _ = None

-- the cause of the trap that led a board where it is, if there was no handler for it: what its last step did
abbrev pub lost_by : TargetState → Option ℕ
lost_by t =
    let before = (gone_back t.lab.recording (min (taken t - 1) (taken t))).session in
    if is_lost (board t.lab) then trap_cause (next_outcome (record before { limit = taken t })) else None

-- where a move ends: a trap without a handler is undone, so that the board stands at the instruction that trapped
abbrev pub landed : TargetState → TargetState
landed t = if is_some (lost_by t) then went_back t (taken t - 1) else with_console t

-- what is told of that: the stop, and of a trap without a handler why it came and the signal of its cause
unfoldable pub Lands : Reason → TargetState → (before after : List ℕ) → Type 0
Lands reason t before after = MatchOption (lost_by t)
    (after ≡ before ++ stop_packets 5 reason t)
    (λ cause. (noted : List ℕ) × Notes (before ++ console_text t) noted
    × (after ≡ noted ++ state_packet (signal_of cause) Plain (went_back t (taken t - 1))))

-- the target whose recording has another session
abbrev pub with_session : TargetState → SessionState → TargetState
with_session t s = with_recording t (record t.lab.recording { session = s })

-- a target after a part of a run that ended so: the run goes on if it took as many steps as it was to take
abbrev pub after_part : End → TargetState → TargetState
after_part Limit t = with_console t
after_part end t = landed t

abbrev pub goes_on : End → Bool
goes_on Limit = true
goes_on end = false

-- whether the next instruction is at a breakpoint
abbrev pub is_at_break : TargetState → Bool
is_at_break t = set.contains t.lab.recording.session.breakpoints.addresses (board t.lab).machine.pc

-- ---- watches

-- the watch that the next instruction meets, and the one that the last step met
abbrev pub met_next : TargetState → Option Watch
met_next t = met t.watches (board t.lab)

abbrev pub met_before : TargetState → Option Watch
met_before t =
    if taken t == 0 then None
    else met t.watches (gone_back t.lab.recording (min (taken t - 1) (taken t))).session.timed.board

-- why a step ends: the next instruction is at a breakpoint, or for no reason that is named
abbrev pub step_reason : TargetState → Reason
step_reason t = if is_at_break t then Breakpoint else Plain

-- why a move ends at a watch, by what it looks for
abbrev pub watch_reason : Watch → Reason
watch_reason w = if w.stores then (if w.loads then Accessed w.address else Stored w.address) else Loaded w.address

abbrev pub met_reason : Option Watch → Reason
met_reason met = option_map_or watch_reason met Plain

-- why a run ends: at a breakpoint; where it goes; or before an access
abbrev pub run_reason : TargetState → Reason
run_reason t =
    if is_at_break t then Breakpoint
    else if reached t.aim t.calls (board t.lab) then Plain
    else met_reason (met_next t)

-- why a part of a run ends, and what is told then
abbrev pub end_reason : End → TargetState → Reason
end_reason Stuck t = reason.End
end_reason end t = run_reason t

abbrev pub EndSays : End → TargetState → (before after : List ℕ) → Type 0
EndSays Limit t before after = after ≡ before ++ console_text t
EndSays end t before after = Lands (end_reason end t) t before after

-- why a step back ends that no watch keeps from being taken
abbrev pub begin_reason : TargetState → Reason
begin_reason t = if taken t == 0 then Begin else Plain

-- why a run back ends
abbrev pub back_reason : Option Back → Reason
back_reason None = Begin
back_reason (Some b) = option_map_or watch_reason b.watch Breakpoint

-- ---- runs

-- a target that begins a run
abbrev pub with_aim : Aim → TargetState → TargetState
with_aim aim t = record t { aim = aim; calls = 0 }

-- a run back to the last stop, or to the first step
abbrev pub last_stop_of : TargetState → Option Back
last_stop_of t = let r = t.lab.recording in
    last_stop t.watches r.session.breakpoints.addresses (first_state r) (taken t)

abbrev pub ran_back : TargetState → TargetState
ran_back t = moved t (gone_back t.lab.recording (left_by (last_stop_of t)))

-- why a run is over after some steps, and how many handlers and calls are open then
abbrev pub ends_of : TargetState → ℕ → Option End
ends_of t = run_ends t.watches t.aim t.calls t.lab.recording.session

abbrev pub calls_of : TargetState → ℕ → ℕ
calls_of t n = open_for t.aim t.calls t.lab.recording.session.timed n
