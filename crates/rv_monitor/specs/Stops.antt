-- To audit: public contracts cite this.
-- When a call ends, and the session that it leaves.
use Rattle.std.specs.Prelude.{◌≡◌, ℕ, ◌-◌, ◌<◌, ◌≤◌, ◌&&◌, Bool, true, false, if◌then◌else◌, nat_lt, Option, Some, None, min, unwrap_or, is_none, is_some, IsSome, Result, Ok, Err}
use Rattle.std.specs.FinSet as set
use Rattle.std.specs.FinSet.{FinSet}
use Rattle.std.specs.Ordering.{nat_cmp}
use Rattle.rv_base.specs.declared.memory.NoMemory.{NoMemory}
use Rattle.rv_hart.specs.declared.trap.Outcome.{Outcome}
use Rattle.rv_hart.specs.Step.{step}
use Rattle.rv_board.specs.BoardState.{BoardState}
use Rattle.rv_board.specs.Move.{writes}
use Rattle.rv_board.specs.declared.event.Event.TheVariants.{Step}
use Rattle.rv_monitor.specs.declared.stop.Stop.{Stop}
use Rattle.rv_monitor.specs.declared.stop.Stop.TheVariants.{Halted, Breakpoint, Limit}
use Rattle.rv_monitor.specs.State.{TimedState, SessionState, after, with_due}

-- the reason why a call ends on a board after `count` of its steps: the board has halted, or else, after the
-- first step, its next instruction is at a breakpoint
unfoldable pub stop_after : FinSet nat_cmp → BoardState → ℕ → Option Stop
stop_after breakpoints b count =
    if is_some b.machine.bus.halt then Some Halted
    else (if nat_lt 0 count && set.contains breakpoints b.machine.pc then Some Breakpoint else None)

-- a call for n steps took the least number of them after which it has a reason to end, or all that it may
-- take, and nothing else changed
pub record Took (breaks : FinSet nat_cmp) (n : ℕ) (old new : SessionState) : Type 0 where
  pub count : ℕ
  pub within : count ≤ min n (old.limit - old.timed.taken)
  pub going : (i : ℕ) → i < count → stop_after breaks (after old.timed i).board i ≡ None
  pub least : count < min n (old.limit - old.timed.taken) → IsSome (stop_after breaks new.timed.board count)
  pub state : new ≡ record old { timed = after old.timed count }

-- the number of steps from one state to a later one
abbrev pub steps_between : TimedState → TimedState → ℕ
steps_between old new = new.taken - old.taken

-- why a call ended, by the session before and after it
abbrev pub stop_of : FinSet nat_cmp → SessionState → SessionState → Stop
stop_of breakpoints old new =
    unwrap_or (stop_after breakpoints new.timed.board (steps_between old.timed new.timed)) Limit

-- memory ran out at a step of a call for n steps: the steps before it were taken, and the inputs before it
-- were given, and nothing else changed; the step is one that writes
pub record WasRefused (breaks : FinSet nat_cmp) (n : ℕ) (old new : SessionState) : Type 0 where
  pub count : ℕ
  pub within : count < min n (old.limit - old.timed.taken)
  pub going : (i : ℕ) → i ≤ count → stop_after breaks (after old.timed i).board i ≡ None
  pub state : new ≡ record old { timed = with_due (after old.timed count) }
  pub next_writes : writes new.timed.board Step ≡ true

-- ---- one step

-- whether a session may take a step: its board hasn't halted, and the limit isn't reached
abbrev pub may_step : SessionState → Bool
may_step s = is_none s.timed.board.machine.bus.halt && nat_lt s.timed.taken s.limit

-- a call for one step took it, and tells what the step did; or there was none to be taken; or memory ran out
-- at it, once the inputs before it were given
abbrev pub TakesStep : SessionState → SessionState → Result (Option Outcome) NoMemory → Type 0
TakesStep old new (Ok (Some told)) = (may_step old ≡ true) × (new ≡ record old { timed = after old.timed 1 })
    × (told ≡ (step (with_due old.timed).board.machine).1)
TakesStep old new (Ok None) = (may_step old ≡ false) × (new ≡ old)
TakesStep old new (Err refused) = (may_step old ≡ true) × (new ≡ record old { timed = with_due old.timed })
    × (writes new.timed.board Step ≡ true)
