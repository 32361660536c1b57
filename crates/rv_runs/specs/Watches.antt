-- To audit: public contracts cite this.
-- What is watched: a run is over after the first step that changes it (this project's own: docs/LAB.md).
use Rattle.std.specs.Prelude.{ℕ, pred, ◌++◌, ◌==◌, nat_eq, not, Bool, true, false, List, [], ◌∷◌, Option, Some}
use Rattle.std.specs.List.{list_any, position, remove}
use Rattle.std.specs.Option.{option_eq, option_map_or}
use Rattle.rv_board.specs.BoardState.{BoardState}
use Rattle.rv_monitor.specs.State.{TimedState, after}
use Rattle.rv_recording.specs.Until.{watched_value}
use Rattle.rv_recording.specs.declared.until.End.{End}
use Rattle.rv_recording.specs.declared.until.End.TheVariants.{Halted, Reached}
use Rattle.rv_recording.specs.declared.until.Watched.{Watched}
use Rattle.rv_recording.specs.declared.until.Watched.TheVariants.{Register, Word}

-- ---- what is watched

abbrev pub is_same : Watched → Watched → Bool
is_same (Register q) (Register r) = q == r
is_same (Word a) (Word b) = a == b
is_same _ _ = false

-- what is watched without one, and with one more
abbrev pub without_watch : Watched → List Watched → List Watched
without_watch w ws = option_map_or (λ n. remove ws n) (position (is_same w) ws) ws

abbrev pub with_watch : Watched → List Watched → List Watched
with_watch w ws = without_watch w ws ++ w ∷ []

-- ---- the ends of a run

-- whether its value differs on two boards
unfoldable pub differs : (before now : BoardState) → Watched → Bool
differs before now w = not (option_eq nat_eq (watched_value now w) (watched_value before w))

-- whether step n of a state changes something that is watched
abbrev pub changes_at : List Watched → TimedState → ℕ → Bool
changes_at ws s n = list_any (differs (after s (pred n)).board (after s n).board) ws

-- why a run is over after a step, by whether that changes something and by why it would be over if nothing were watched
abbrev pub watching : (changes : Bool) → Option End → Option End
watching true (Some Halted) = Some Halted
watching true end = Some Reached
watching false end = end
