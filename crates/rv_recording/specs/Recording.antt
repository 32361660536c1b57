-- To audit: public contracts cite this.
-- A session that can be run again from reset on.
use Rattle.std.specs.Prelude.{ℕ, ◌*◌}
use Rattle.rv_board.specs.Boot.{board_at_reset}
use Rattle.rv_board.specs.BoardState.{BoardState}
use Rattle.rv_monitor.specs.State.{SessionState, TimedState, begun, after}

-- a session, and the pages and slots of its board
pub record RecordingState : Type 0 where
  pub session : SessionState
  pub pages : ℕ
  pub slots : ℕ

-- the most steps of a recording: the largest step of a timed list
abbrev pub last_step : ℕ
last_step = 9999999999

-- the board at reset
abbrev pub first_board : RecordingState → BoardState
first_board r = board_at_reset r.session.program.bytes (4096 * r.pages)

-- a recording before its first step
abbrev pub first_state : RecordingState → TimedState
first_state r = begun (first_board r) r.session.timed.inputs

-- the recording with its board, inputs and steps replaced
abbrev pub with_timed : RecordingState → TimedState → RecordingState
with_timed r timed = record r { session = record r.session { timed = timed } }

-- the recording after its first n steps
abbrev pub gone_back : RecordingState → ℕ → RecordingState
gone_back r n = with_timed r (after (begun (first_board r) r.session.timed.inputs) n)
