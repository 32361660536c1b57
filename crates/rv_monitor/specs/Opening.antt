-- A session that is opened from a program, a timed list and sizes, or the first fault of those.
-- To audit: public contracts cite this.
use Rattle.std.specs.Prelude.{◌≡◌, ℕ, ◌*◌, ⊤, List, length, None, Some, Result, Ok, Err}
use Rattle.rv_board.specs.Boot.{boot_fault, board_at_reset}
use Rattle.rv_timeline.specs.Timed.{IsRead}
use Rattle.rv_timeline.specs.declared.fault.TimelineFault.TheVariants.{BadLine}
use Rattle.rv_timeline.specs.declared.input.TimedInput.{TimedInput}
use Rattle.rv_program.specs.Program.{Assembly}
use Rattle.rv_monitor.specs.State.{SessionState, new_session}
use Rattle.rv_monitor.specs.declared.opening.OpenFault.{OpenFault}
use Rattle.rv_monitor.specs.declared.opening.OpenFault.TheVariants.{Input, Board, OutOfMemory}

-- a row a result: a session before its first step, of the program, with the inputs of a timed list, on the
-- board at reset, which boots; or the first fault, of the timed list, or of the board, which does not boot with
-- these sizes; or memory ran out
abbrev pub Opens : Assembly → (list : List ℕ) (pages slots limit : ℕ) → Result SessionState OpenFault → Type 0
Opens program list pages slots limit (Ok s) =
    IsRead list (Ok s.timed.inputs) × (boot_fault (length program.bytes) pages slots ≡ None)
    × (s ≡ new_session (board_at_reset program.bytes (4096 * pages)) s.timed.inputs program limit)
Opens program list pages slots limit (Err (Input n)) = IsRead list (Err (BadLine n))
Opens program list pages slots limit (Err (Board fault)) =
    (timed : List TimedInput) × IsRead list (Ok timed) × (boot_fault (length program.bytes) pages slots ≡ Some fault)
Opens program list pages slots limit (Err OutOfMemory) = ⊤
