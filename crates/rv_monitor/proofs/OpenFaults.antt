-- The faults of a timed list and of a board are those of the opening.
use Rattle.std.proofs.Common.{◌≡◌, ℕ, List, length, Some, Ok, Err, arith, rules}
use Rattle.std.specs.Prelude.{◌≢◌}
use Rattle.rv_board.specs.Boot.{boot_fault}
use Rattle.rv_board.specs.declared.event.BootFault.{BootFault}
use Rattle.rv_board.specs.declared.event.BootFault.TheVariants as boot
use Rattle.rv_timeline.specs.Timed.{IsRead}
use Rattle.rv_timeline.specs.declared.fault.TimelineFault.{TimelineFault}
use Rattle.rv_timeline.specs.declared.input.TimedInput.{TimedInput}
use Rattle.rv_program.specs.Program.{Assembly}
use Rattle.rv_monitor.specs.OpenFaults.{board_fault, list_fault}
use Rattle.rv_monitor.specs.Opening.{Opens}

module _ (program : Assembly) (inputs : List ℕ) (pages slots limit : ℕ) where
  pub list_refused : (why : TimelineFault) → IsRead inputs (Err why)
      → Opens program inputs pages slots limit (Err (list_fault why))
  list_refused why h = search (rules, arith)

  pub board_refused : (timed : List TimedInput) (why : BootFault) → IsRead inputs (Ok timed)
      → (why ≢ boot.OutOfMemory → boot_fault (length program.bytes) pages slots ≡ Some why)
      → Opens program inputs pages slots limit (Err (board_fault why))
  board_refused timed why read h = search (rules, arith)
