-- Events by the halt code of a board, and the outcome of a step.
-- Not to audit: proofs alone cite this. The definitions compute to it.
use Rattle.std.specs.Prelude.{ℕ, if◌then◌else◌, is_some, Option}
use Rattle.rv_hart.specs.Step as hart
use Rattle.rv_board.specs.Support.State.{BoardState}
use Rattle.rv_board.specs.Move.{with_event}
use Rattle.rv_hart.specs.declared.trap.Outcome.{Outcome}
use Rattle.rv_board.specs.declared.event.Event.{Event}

-- what the next step of a board does, unless it has halted
abbrev pub step_outcome : BoardState → Outcome
step_outcome b = (hart.step b.machine).1

-- the board after an event
abbrev pub happens : Option ℕ → BoardState → Event → BoardState
happens halt b e = if is_some halt then b else with_event b e
