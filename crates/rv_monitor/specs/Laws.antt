-- To audit: public contracts cite this.
-- The states that a board comes to by its inputs and its steps.
use Rattle.std.specs.Prelude.{◌≡◌, ◌⊎◌, ℕ, ◌<◌, true, None}
use Rattle.rv_board.specs.BoardState.{BoardState}
use Rattle.rv_timeline.specs.Timed.{never_falls}
use Rattle.rv_monitor.specs.State.{TimedState, begun, after, with_due}

-- a state is what its steps and its inputs make of a board: the inputs of the next step were given, or they
-- weren't; and the board had not halted before any of the steps
pub record IsReached (board : BoardState) (s : TimedState) : Type 0 where
  pub rising : never_falls s.inputs ≡ true
  pub state : (s ≡ after (begun board s.inputs) s.taken) ⊎ (s ≡ with_due (after (begun board s.inputs) s.taken))
  pub running : (k : ℕ) → k < s.taken → (after (begun board s.inputs) k).board.machine.bus.halt ≡ None
