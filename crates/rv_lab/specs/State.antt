-- To audit: public contracts cite this.
-- The state of a lab.
use Rattle.std.specs.Prelude.{ℕ, List, Option, length}
use Rattle.rv_program.specs.Program.{Assembly}
use Rattle.rv_board.specs.BoardState.{BoardState}
use Rattle.rv_asm.specs.Lines.{Listed, Located, listing_of}
use Rattle.rv_monitor.specs.State.{TimedState}
use Rattle.rv_recording.specs.Recording.{RecordingState}
use Rattle.rv_recording.specs.declared.until.Watched.{Watched}
use Rattle.rv_answers.specs.declared.command.Command.{Command}
pub use Rattle.rv_convention.specs.Convention.{registers_of}
use Rattle.rv_frames.specs.declared.row.FrameRow.{FrameRow}
use Rattle.rv_runs.specs.declared.guard.Guard.{Guard}
use Rattle.rv_runs.specs.declared.goal.Goal.{Goal}
use Rattle.rv_runs.specs.declared.plan.Plan.{Plan}
use Rattle.rv_lab.specs.declared.trail.Trail.{Trail}

-- a source with the places of its lines, the rows of its frames, the places of the C source and the recording of its
-- program; the conditions of breakpoints, and what is watched; the registers and the number of steps before the last
-- command that moved the board, and the bytes of the console that were told; what an empty line repeats, the steps of
-- the last `s`, and the last line of the last `l`; the run that isn't over; what `c` goes on for; what `why` alone goes
-- on with; and the most steps of a call
pub record LabState : Type 0 where
  pub source : List ℕ
  pub places : Located
  pub frames : List FrameRow
  pub marks : List ℕ
  pub recording : RecordingState
  pub guards : List Guard
  pub watches : List Watched
  pub registers : List ℕ
  pub before : ℕ
  pub told : ℕ
  pub again : Command
  pub count : ℕ
  pub listed : ℕ
  pub plan : Option Plan
  pub resumes : Goal
  pub trail : Option Trail
  pub piece : ℕ

-- the listing of the source
abbrev pub listing : LabState → Listed
listing l = listing_of l.recording.session.program l.places

-- what no command changes: the source, the places of its lines, the rows of its frames, the places of the C source,
-- the program (and so the listing), the sizes of its board, and the steps of a call
abbrev pub setup : LabState → List ℕ × Located × List FrameRow × List ℕ × Assembly × ℕ × ℕ × ℕ
setup l = (l.source, l.places, l.frames, l.marks, l.recording.session.program, l.recording.pages, l.recording.slots, l.piece)

-- the board with its inputs, and the board alone
abbrev pub timed : LabState → TimedState
timed l = l.recording.session.timed

abbrev pub board : LabState → BoardState
board l = (timed l).board

-- the bytes that the console has got
abbrev pub sent : LabState → ℕ
sent l = length (board l).machine.bus.serial.sent
