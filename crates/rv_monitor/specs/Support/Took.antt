-- The steps that a part of a call takes.
-- Not to audit: private contracts alone cite this.
use Rattle.std.specs.Prelude.{◌≡◌, ℕ, ◌<◌, Option, None, Result, Ok, Err}
use Rattle.rv_base.specs.declared.memory.NoMemory.{NoMemory}
use Rattle.rv_board.specs.Support.State.{BoardState}
use Rattle.rv_board.specs.PlainSteps.{after_steps}
use Rattle.rv_monitor.specs.State.{Addresses}
use Rattle.rv_monitor.specs.Stops.{stop_after}
use Rattle.rv_monitor.specs.declared.stop.Stop.{Stop}

-- n steps were taken, before each of which a call that begins with them has no reason to end. After the last
-- it has this reason to end, or none
pub record TookPart (breakpoints : Addresses) (old new : BoardState) (n : ℕ) (reason : Option Stop) : Type 0 where
  pub state : new ≡ after_steps old n
  pub going : (i : ℕ) → i < n → stop_after breakpoints (after_steps old i) i ≡ None
  pub ends : reason ≡ stop_after breakpoints new n

-- the reason to end after what a part returns: none where memory ran out at the next step
abbrev pub reason_of : Result (Option Stop) NoMemory → Option Stop
reason_of (Ok reason) = reason
reason_of (Err refused) = None
