-- A run that ran out of memory.
-- To audit: public contracts cite this.
use Rattle.std.specs.Prelude.{◌≡◌, ℕ, ◌<◌, true, Option, None}
use Rattle.rv_board.specs.Move.{writes}
use Rattle.rv_board.specs.declared.event.Event.TheVariants.{Step}
use Rattle.rv_monitor.specs.State.{SessionState, after, with_due}
use Rattle.rv_monitor.specs.Stops.{steps_between}
use Rattle.rv_recording.specs.Until.{steps_of}
use Rattle.rv_recording.specs.declared.until.End.{End}

-- a run isn't over after fewer than n steps
abbrev pub NoneEnds : (ℕ → Option End) → ℕ → Type 0
NoneEnds ends n = (i : ℕ) → i < n → ends i ≡ None

-- memory ran out at a step of a run: those before it were taken, and the inputs before it were given
pub record IsRefusedIn (ends : ℕ → Option End) (most : ℕ) (old new : SessionState) : Type 0 where
  pub within : steps_between old.timed new.timed < steps_of ends most
  pub state : new ≡ record old { timed = with_due (after old.timed (steps_between old.timed new.timed)) }
  pub next_writes : writes new.timed.board Step ≡ true
