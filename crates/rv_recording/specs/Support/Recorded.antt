-- Not to audit: the type of recordings keeps it to itself; what callers are told are clauses of its calls.
-- What holds of every recording.
use Rattle.std.specs.Prelude.{◌≡◌, length, None}
use Rattle.rv_board.specs.Boot.{boot_fault}
use Rattle.rv_timeline.specs.Support.Reading.{HasSteps}
use Rattle.rv_monitor.specs.Laws.{IsReached}
use Rattle.rv_recording.specs.Recording.{RecordingState, first_board, last_step}

pub record IsRecorded (r : RecordingState) : Type 0 where
  pub boots : boot_fault (length r.session.program.bytes) r.pages r.slots ≡ None
  pub reached : IsReached (first_board r) r.session.timed
  pub steps : HasSteps r.session.timed.inputs
  pub limit : r.session.limit ≡ last_step
