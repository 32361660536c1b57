-- Not to audit: private contracts alone cite this.
-- The search for the last stop.
use Rattle.std.specs.Prelude.{◌≡◌, ℕ, ◌<◌, ◌≤◌, List, Option, Some, None, IfSome}
use Rattle.rv_board.specs.Support.State.{halted_of}
use Rattle.rv_monitor.specs.State.{after}
use Rattle.rv_recording.specs.Recording.{RecordingState, gone_back}
use Rattle.rv_moves.specs.Back.{first_state, last_stop, taken}
use Rattle.rv_moves.specs.declared.back.Back.{Back}
use Rattle.rv_moves.specs.declared.watch.Watch.{Watch}

-- a recording that went back, and may take the first `to` of its steps again
pub record WentBack (to : ℕ) (r : RecordingState) : Type 0 where
  pub at : r ≡ gone_back r (taken r)
  pub running : (i : ℕ) → i < to → halted_of (after (first_state r) i).board ≡ None
  pub room : to ≤ r.session.limit

-- what is found, or else what was found before
abbrev pub or_else : Option Back → Option Back → Option Back
or_else None before = before
or_else (Some b) before = Some b

-- the steps of a recording after the first `from` were looked at, up to the first `to` at most, and the last stop among
-- them was found
pub record Looked (ws : List Watch) (to : ℕ) (old : RecordingState) (from : ℕ) (new : RecordingState) (found : Option Back)
    : Type 0 where
  pub state : new ≡ gone_back old (taken new)
  pub within : taken new ≤ to
  pub last : last_stop ws old.session.breakpoints.addresses (first_state old) (taken new)
      ≡ or_else found (last_stop ws old.session.breakpoints.addresses (first_state old) from)
  pub earlier : IfSome found (λ b. b.steps ≤ taken new)
