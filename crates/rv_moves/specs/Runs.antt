-- To audit: public contracts cite this.
-- The runs of a debugger.
use Rattle.std.specs.Prelude.{ℕ, zero, suc, ◌^◌, ◌==◌, ◌&&◌, ◌||◌, not, nat_le, nat_lt, Bool, false, List, if◌then◌else◌, Option, Some, None, is_some}
use Rattle.std.specs.FinSet as set
use Rattle.rv_hart.specs.declared.trap.Outcome.{Outcome}
use Rattle.rv_hart.specs.declared.trap.Outcome.TheVariants.{Trapped}
use Rattle.rv_hart.specs.Step.{step}
use Rattle.rv_board.specs.BoardState.{BoardState}
use Rattle.rv_monitor.specs.State.{SessionState, TimedState, after, with_due}
use Rattle.rv_recording.specs.Out.{open_at}
use Rattle.rv_recording.specs.declared.until.End.{End}
use Rattle.rv_recording.specs.declared.until.End.TheVariants.{Halted, Reached, Breakpoint, Stuck}
use Rattle.rv_moves.specs.Watches.{met}
use Rattle.rv_moves.specs.declared.forward.Aim.{Aim}
use Rattle.rv_moves.specs.declared.forward.Aim.TheVariants.{Stop, Outside}
use Rattle.rv_moves.specs.declared.watch.Watch.{Watch}

-- ---- open handlers

-- whether an interrupt came with a step: the highest bit of its cause is set
unfoldable pub is_interrupt : Outcome → Bool
is_interrupt (Trapped cause epc tval) = nat_le (2 ^ 31) cause
is_interrupt did = false

-- the number of open handlers and calls after the next step of a state: outside of handlers an interrupt opens one, and
-- calls aren't counted; inside they are, as in a run out of calls
unfoldable pub step_open : ℕ → TimedState → ℕ
step_open calls s =
    if calls == 0 then (if is_interrupt (step (with_due s).board.machine).1 then 1 else 0)
    else open_at calls s 1

-- after n steps
unfoldable pub open_in : ℕ → TimedState → ℕ → ℕ
open_in calls s zero = calls
open_in calls s (suc n) = step_open (open_in calls s n) (after s n)

-- a run to a stop doesn't count them
abbrev pub open_for : Aim → ℕ → TimedState → ℕ → ℕ
open_for Stop calls s n = calls
open_for (Outside from to) calls s n = open_in calls s n

-- ---- the ends of a run

-- whether a board stands where a run goes, with some open handlers and calls
abbrev pub reached : Aim → ℕ → BoardState → Bool
reached Stop calls b = false
reached (Outside from to) calls b = (calls == 0) && not (nat_le from b.machine.pc && nat_lt b.machine.pc to)

-- why a run is over where a session stands, if it is, by whether it has taken a step: the board has halted; the next
-- instruction meets a watch; the run has come where it goes, or to a breakpoint; or no more steps may be taken
abbrev pub end_here : List Watch → Aim → (calls : ℕ) → (moved : Bool) → SessionState → Option End
end_here ws aim calls moved s =
    let b = s.timed.board in
    if is_some b.machine.bus.halt then Some Halted
    else (if is_some (met ws b) || (moved && reached aim calls b) then Some Reached
    else (if moved && set.contains s.breakpoints.addresses b.machine.pc then Some Breakpoint
    else (if nat_lt s.timed.taken s.limit then None else Some Stuck)))

-- after n steps of a session
abbrev pub run_ends : List Watch → Aim → (calls : ℕ) → SessionState → ℕ → Option End
run_ends ws aim calls s n =
    end_here ws aim (open_in calls s.timed n) (nat_lt 0 n) (record s { timed = after s.timed n })
