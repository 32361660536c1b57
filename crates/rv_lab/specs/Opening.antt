-- The session of a lab, which is opened from a source, a timed list and sizes, or the first fault of those.
-- To audit: public contracts cite this.
use Rattle.std.specs.Prelude.{◌≡◌, ℕ, ⊤, List, Result, Ok, Err}
use Rattle.rv_asm.specs.Assembly.{assembled}
use Rattle.rv_monitor.specs.Opening.{Opens}
use Rattle.rv_monitor.specs.State.{SessionState}
use Rattle.rv_monitor.specs.declared.opening.OpenFault.{OpenFault}
use Rattle.rv_monitor.specs.declared.opening.OpenFault.TheVariants as opening
use Rattle.rv_program.specs.Program.{Assembly}
use Rattle.rv_recording.specs.Recording.{last_step}
use Rattle.rv_lab.specs.declared.fault.LabFault.{LabFault}
use Rattle.rv_lab.specs.declared.fault.LabFault.TheVariants.{Source, Input, Board, OutOfMemory}

-- what the program of a source, which is assembled, opens with a timed list on a board of these sizes
abbrev pub OpensBy : (source list : List ℕ) (pages slots : ℕ) → Result SessionState OpenFault → Type 0
OpensBy source list pages slots opened =
    (program : Assembly) × (assembled source ≡ Ok program) × Opens program list pages slots last_step opened

-- a row a result: a session before its first step; or the first fault, of the source, of the timed list, or of
-- the board; or memory ran out
abbrev pub OpensLab : (source list : List ℕ) (pages slots : ℕ) → Result SessionState LabFault → Type 0
OpensLab source list pages slots (Ok s) = OpensBy source list pages slots (Ok s)
OpensLab source list pages slots (Err (Source fault)) = assembled source ≡ Err fault
OpensLab source list pages slots (Err (Input n)) = OpensBy source list pages slots (Err (opening.Input n))
OpensLab source list pages slots (Err (Board fault)) = OpensBy source list pages slots (Err (opening.Board fault))
OpensLab source list pages slots (Err OutOfMemory) = ⊤
