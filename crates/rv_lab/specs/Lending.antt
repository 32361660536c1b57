-- To audit: public contracts cite this.
-- A recording that is lent to be moved.
use Rattle.std.specs.Borrow.{Lends, MutBor, Fml}
use Rattle.rv_recording.specs.Recording.{RecordingState}
use Rattle.rv_recording.specs.contracts.recording.Recording as recording
use Rattle.rv_lab.specs.State.{LabState}
use Rattle.rv_lab.specs.contracts.lab.Lab as lab

-- the lab ends with the recording that was left behind the reference
abbrev pub LendsRecording : MutBor LabState → MutBor RecordingState → Fml
LendsRecording l r = Lends lab.the_row recording.the_row l r (λ w. record l.now { recording = w })
