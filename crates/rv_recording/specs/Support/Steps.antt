-- Not to audit: private contracts alone cite this.
-- One step of a run.
use Rattle.std.specs.Prelude.{◌≡◌, ◌⊎◌, ℕ, ◌+◌, ◌-◌, ◌^◌, min, Bool, true, false, if◌then◌else◌, nat_lt, Option, Some, None, is_some, Result, Ok, Err}
use Rattle.std.specs.FinSet as set
use Rattle.std.specs.Option.{option_and_then}
use Rattle.rv_isa.specs.Support.Meaning.{means}
use Rattle.rv_base.specs.declared.memory.NoMemory.{NoMemory}
use Rattle.rv_hart.specs.Step.{step}
use Rattle.rv_board.specs.Support.State.{pc_of, halted_of}
use Rattle.rv_board.specs.Move.{writes}
use Rattle.rv_board.specs.declared.event.Event.TheVariants.{Step}
use Rattle.rv_monitor.specs.State.{SessionState, TimedState, after, with_due}
use Rattle.rv_monitor.specs.Stops.{may_step}
use Rattle.rv_monitor.specs.Views.{word_at}
use Rattle.rv_monitor.specs.declared.stop.Stop.{Stop}
use Rattle.rv_monitor.specs.declared.stop.Stop.TheVariants as stop
use Rattle.rv_recording.specs.Recording.{RecordingState, with_timed}
use Rattle.rv_recording.specs.Until.{holds}
use Rattle.rv_recording.specs.Out.{open_after}
use Rattle.rv_recording.specs.declared.until.End.{End}
use Rattle.rv_recording.specs.declared.until.End.TheVariants.{Halted, Reached, Breakpoint, Limit, Stuck}
use Rattle.rv_recording.specs.declared.until.Condition.{Condition}

-- one open call more
abbrev pub after_call : ℕ → ℕ
after_call calls = min (calls + 1) (2 ^ 64 - 1)

-- the number of open calls after the next step of a state
abbrev pub open_of_step : ℕ → TimedState → ℕ
open_of_step calls s =
    open_after calls (step (with_due s).board.machine).1 (option_and_then means (word_at s.board s.board.machine.pc))

-- the first reason that holds for a run to be over: the board has halted, the run has come to what it goes on for or to a
-- breakpoint, or no more steps may be taken
abbrev pub first_end : Option ℕ → (reached breaks may : Bool) → Option End
first_end halted reached breaks may = if is_some halted then Some Halted
    else (if reached then Some Reached else (if breaks then Some Breakpoint else (if may then None else Some Stuck)))

-- why a run is over before its first step, if it is
abbrev pub end_before : SessionState → Option End
end_before s = first_end (halted_of s.timed.board) false false (nat_lt s.timed.taken s.limit)

-- why a run is over after a step, if it is, by whether it has come to what it goes on for
abbrev pub end_after : Bool → SessionState → Option End
end_after reached s = first_end (halted_of s.timed.board) reached
    (set.contains s.breakpoints.addresses (pc_of s.timed.board)) (nat_lt s.timed.taken s.limit)

-- a session after its next step
abbrev pub next_of : SessionState → SessionState
next_of s = record s { timed = after s.timed 1 }

-- why a run until a condition holds is over after the next step, if it is
abbrev pub end_of_step : Condition → SessionState → Option End
end_of_step condition s =
    end_after (holds condition (step (with_due s.timed).board.machine).1 (after s.timed 1).board) (next_of s)

-- a call for one step of a run took it, and tells why the run ends with it, if it does, which is `end`; or
-- there was none to be taken; or memory ran out at it
abbrev pub TakesOne : Option End → RecordingState → RecordingState → Result (Option End) NoMemory → Type 0
TakesOne end old new (Ok told) =
    ((new ≡ with_timed old (after old.session.timed 1)) × (told ≡ end))
    ⊎ ((may_step old.session ≡ false) × (new ≡ old) × (told ≡ Some Stuck))
TakesOne end old new (Err refused) =
    (new ≡ with_timed old (with_due old.session.timed)) × (writes new.session.timed.board Step ≡ true)

-- the number of open calls after a call for one step that took one, by the number before it
abbrev pub CountsOne : (calls left : ℕ) → RecordingState → Type 0
CountsOne calls left old = (left ≡ open_of_step calls old.session.timed) ⊎ (may_step old.session ≡ false)

-- why a run is over that a call of a session took, by why the call ended and whether more steps may be taken
abbrev pub end_by : Stop → Bool → End
end_by stop.Halted may = Halted
end_by stop.Breakpoint may = Breakpoint
end_by stop.Limit may = if may then Limit else Stuck
