-- A session that goes on from a board which has taken some of its steps.
-- To audit: public contracts cite this.
use Rattle.std.specs.Prelude.{ℕ, List}
use Rattle.rv_board.specs.BoardState.{BoardState}
use Rattle.rv_timeline.specs.declared.input.TimedInput.{TimedInput}
use Rattle.rv_monitor.specs.State.{TimedState, SessionState, count_before}

-- a board that has taken some steps, and was given the inputs before each of them
abbrev pub resumed : BoardState → List TimedInput → ℕ → TimedState
resumed board inputs taken =
    record { board = board; inputs = inputs; place = count_before taken inputs; taken = taken }

-- a session over another board that has taken some steps, with all that it has
abbrev pub resumed_at : SessionState → BoardState → ℕ → SessionState
resumed_at s board taken = record s { timed = resumed board s.timed.inputs taken }
