-- A program, a timed list and sizes open one session, or have one fault.
use Rattle.std.proofs.Common.{rules, arith, ◌≡◌, ℕ, ◌*◌, List, length, Option, Some, None, Result, Ok, Err, refl, ⊎_elim}
use Rattle.std.specs.Prelude.{◌≢◌}
use Rattle.rv_base.specs.Lines.{lines}
use Rattle.rv_board.specs.Boot.{boot_fault, board_at_reset}
use Rattle.rv_board.specs.declared.event.BootFault.{BootFault}
use Rattle.rv_timeline.specs.Timed.{timed}
use Rattle.rv_timeline.specs.declared.input.TimedInput.{TimedInput}
use Rattle.rv_monitor.specs.Opening.{Opens}
use Rattle.rv_monitor.specs.State.{SessionState, new_session}
use Rattle.rv_monitor.specs.declared.opening.OpenFault.{OpenFault}
use Rattle.rv_monitor.specs.declared.opening.OpenFault.TheVariants.{Input, Board, OutOfMemory}
use Rattle.rv_program.specs.Program.{Assembly}
use Rattle.rv_cli.proofs.OneList.{list_or_line, not_both, one_line}

abbrev pub Opening : Type 0
Opening = Result SessionState OpenFault

module _ (program : Assembly) (inputs : List ℕ) (pages slots limit : ℕ) where
  abbrev session : List TimedInput → SessionState
  session xs = new_session (board_at_reset program.bytes (4096 * pages)) xs program limit

  abbrev fault : Option BootFault
  fault = boot_fault (length program.bytes) pages slots

  abbrev IsOpening : Opening → Type 0
  IsOpening = Opens program inputs pages slots limit

  -- at most one, if memory doesn't run out
  pub one_opening : (a b : Opening) → IsOpening a → IsOpening b → a ≢ Err OutOfMemory
      → b ≢ Err OutOfMemory → a ≡ b
  one_opening a b one two kept there = search (rules, arith, not_both, one_line)

  -- and there is one
  abbrev Opened : Type 0
  Opened = (opening : Opening) × IsOpening opening × (opening ≢ Err OutOfMemory)

  by_board : (xs : List TimedInput) (why : Option BootFault) → timed (lines inputs) ≡ Some xs
      → fault ≡ why → Opened
  by_board xs (Some why) read is = (Err (Board why), (xs, read, is), λ e. cc)
  by_board xs None read is = (Ok (session xs), (read, is, refl), λ e. cc)

  pub some_opening : Opened
  some_opening =
      ⊎_elim (λ listed. by_board listed.0 fault listed.1 refl)
      (λ refused. (Err (Input refused.0), refused.1, λ e. cc))
      (list_or_line (lines inputs))
