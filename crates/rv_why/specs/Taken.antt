-- To audit: public contracts cite this.
-- The steps of a recording, by how many come before each.
use Rattle.std.specs.Prelude.{ℕ, Bool, true, false}
use Rattle.rv_hart.specs.Step.{step}
use Rattle.rv_hart.specs.declared.trap.Outcome.{Outcome}
use Rattle.rv_hart.specs.declared.trap.Outcome.TheVariants.{Trapped}
use Rattle.rv_board.specs.BoardState.{BoardState}
use Rattle.rv_monitor.specs.State.{TimedState, after, with_due}
pub use Rattle.rv_recording.specs.Recording.{first_state}

-- the board after n steps of a state, and what the step after them does
abbrev pub board_at : TimedState → ℕ → BoardState
board_at s n = (after s n).board

abbrev pub outcome_at : TimedState → ℕ → Outcome
outcome_at s n = (step (with_due (after s n)).board.machine).1

abbrev pub is_trap : Outcome → Bool
is_trap (Trapped cause epc tval) = true
is_trap did = false
