-- Not to audit: an invariant and private contracts alone cite this.
-- The states that a recording keeps on the way.
use Rattle.std.specs.Prelude.{◌≡◌, ℕ, ◌≤◌, List, [], ◌∷◌}
use Rattle.rv_board.specs.Move.{run}
use Rattle.rv_board.specs.Support.State.{BoardState}
use Rattle.rv_timeline.specs.declared.input.TimedInput.{TimedInput}
use Rattle.rv_monitor.specs.Events.{events_of}

-- a board, and the number of steps that it has taken
pub record KeptBoard : Type 0 where
  pub board : BoardState
  pub steps : ℕ

-- the board is the run of the recorded events of its steps: it was given no input of the next step
abbrev pub IsKept : BoardState → List TimedInput → KeptBoard → Type 0
IsKept first inputs kept = kept.board ≡ run first (events_of inputs 0 kept.steps)

abbrev pub AreKept : BoardState → List TimedInput → List KeptBoard → Type 0
AreKept first inputs [] = Unit {0}
AreKept first inputs (k ∷ ks) = IsKept first inputs k × AreKept first inputs ks

-- none of them has taken more than n steps
abbrev pub AreWithin : ℕ → List KeptBoard → Type 0
AreWithin n [] = Unit {0}
AreWithin n (k ∷ ks) = (k.steps ≤ n) × AreWithin n ks
