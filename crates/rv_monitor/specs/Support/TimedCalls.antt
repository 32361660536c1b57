-- Not to audit: private contracts and proofs alone cite this.
-- Calls over a board with its timed inputs: what `Took`, `stop_of` and `WasRefused` say of it.
use Rattle.std.specs.Prelude.{◌≡◌, ℕ, ◌-◌, ◌<◌, ◌≤◌, min, true, Option, None, IsSome, unwrap_or}
use Rattle.rv_board.specs.Move.{writes}
use Rattle.rv_board.specs.declared.event.Event.TheVariants.{Step}
use Rattle.rv_monitor.specs.declared.stop.Stop.{Stop}
use Rattle.rv_monitor.specs.declared.stop.Stop.TheVariants.{Limit}
use Rattle.rv_monitor.specs.State.{Addresses, SessionState, TimedState, after, with_due}
use Rattle.rv_monitor.specs.Stops.{stop_after, steps_between}

-- the largest number of steps that a call for n may take
abbrev pub most_of : SessionState → ℕ → ℕ
most_of s n = min n (s.limit - s.timed.taken)

-- the number of steps of `c`
abbrev pub going_for : SessionState → Option ℕ → ℕ
going_for s n = unwrap_or n s.limit

-- a call took the least number of steps after which it has a reason to end, or the most that it may take, and
-- tells why it ended
pub record HasStopped (breakpoints : Addresses) (most : ℕ) (old new : TimedState) (stop : Stop) : Type 0 where
  pub count : ℕ
  pub within : count ≤ most
  pub going : (i : ℕ) → i < count → stop_after breakpoints (after old i).board i ≡ None
  pub least : count < most → IsSome (stop_after breakpoints new.board count)
  pub state : new ≡ after old count
  pub word : stop ≡ unwrap_or (stop_after breakpoints new.board (steps_between old new)) Limit

-- memory ran out at a step of a call
pub record IsRefused (breakpoints : Addresses) (most : ℕ) (old new : TimedState) : Type 0 where
  pub count : ℕ
  pub within : count < most
  pub going : (i : ℕ) → i ≤ count → stop_after breakpoints (after old i).board i ≡ None
  pub state : new ≡ with_due (after old count)
  pub next_writes : writes new.board Step ≡ true
