-- Texts and options have one output.
use Rattle.std.proofs.Common.{rules, arith, ◌≡◌, List, ℕ, ◌++◌, Some, Result, Ok, Err, refl}
use Rattle.std.specs.Prelude.{◌≢◌}
use Rattle.rv_asm.specs.Assembly.{assembled}
use Rattle.rv_board.specs.Boot as boot
use Rattle.rv_board.specs.Support.State.{halted_of}
use Rattle.rv_board.specs.declared.event.BootFault.TheVariants as boot_fault
use Rattle.rv_monitor.specs.State.{SessionState}
use Rattle.rv_monitor.specs.declared.opening.OpenFault.TheVariants as opening
use Rattle.rv_program.specs.Program.{Assembly}
use Rattle.rv_program.specs.declared.fault.AsmFault.{AsmFault}
use Rattle.rv_io.specs.Support.Calls.{Texts}
use Rattle.rv_options.specs.declared.Options.{Options}
use Rattle.rv_cli.specs.Conversions.{unopened_fault}
use Rattle.rv_cli.specs.Support.Meanings.{ending_of}
use Rattle.rv_cli.specs.Output.{IsOutput, OpensFor, printed}
use Rattle.rv_cli.specs.declared.fault.CliFault.{CliFault}
use Rattle.rv_cli.specs.declared.fault.CliFault.TheVariants.{BadPages, BadSlots, ImageTooLarge, Input, Source}
use Rattle.rv_cli.specs.declared.fault.Ending.{Ending}
use Rattle.rv_cli.proofs.OneOpening.{Opening, one_opening, some_opening}
use Rattle.rv_cli.proofs.OneRun.{one_done, some_done}

abbrev Output : Type 0
Output = Result (List ℕ × Ending) CliFault

abbrev end_of : SessionState → List ℕ → Output
end_of last answers = Ok (answers ++ printed last.timed.board, ending_of (halted_of last.timed.board))

never_memory : (size pages slots : ℕ) → boot.boot_fault size pages slots ≡ Some boot_fault.OutOfMemory → ⊥
unfolding boot.boot_fault
never_memory size pages slots e = search (rules, arith)

module _ (texts : Texts) (options : Options) where
  -- the output of an opening
  abbrev output_of : Opening → Output
  output_of (Err fault) = Err (unopened_fault fault)
  output_of (Ok first) = let some = some_done texts.commands first in end_of some.0 some.1.0

  -- what an output is the output of: a source that is refused, or an opening
  data Comes : Output → Type 0 where
    refused : (fault : AsmFault) → assembled texts.source ≡ Err fault → Comes (Err (Source fault))
    opened : (first : Opening) → OpensFor texts options first → first ≢ Err opening.OutOfMemory
        → (output : Output) → output ≡ output_of first → Comes output

  comes : (output : Output) → IsOutput texts options output → Comes output
  comes (Ok done) is =
      let some = some_done texts.commands is.0 in
      let same = one_done texts.commands is.0 is.1 some.0 is.2 some.1.0 is.4 some.1.1 in
      opened (Ok is.0) is.3 (λ e. cc) (Ok done) (search (rules, arith, same))
  comes (Err (Source fault)) is = refused fault is
  comes (Err (Input n)) is = opened (Err (opening.Input n)) is (λ e. cc) (Err (Input n)) refl
  comes (Err BadPages) is = opened (Err (opening.Board boot_fault.BadPages)) is (λ e. cc) (Err BadPages) refl
  comes (Err BadSlots) is = opened (Err (opening.Board boot_fault.BadSlots)) is (λ e. cc) (Err BadSlots) refl
  comes (Err ImageTooLarge) is =
      opened (Err (opening.Board boot_fault.ImageTooLarge)) is (λ e. cc) (Err ImageTooLarge) refl
  comes (Err other) is = absurd is

  -- texts and options have at most one output
  pub one_output : (a b : Output) → IsOutput texts options a → IsOutput texts options b → a ≡ b
  one_output a b one two = search (rules, arith, comes, one_opening)

  is_output : (first : Opening) → OpensFor texts options first → first ≢ Err opening.OutOfMemory
      → IsOutput texts options (output_of first)
  is_output (Ok first) opens kept =
      let some = some_done texts.commands first in (first, some.0, some.1.0, opens, some.1.1, refl, refl)
  is_output (Err fault) opens kept = search (rules, arith, never_memory)

  some_by : (made : Result Assembly AsmFault) → assembled texts.source ≡ made
      → (output : Output) × IsOutput texts options output
  some_by (Err fault) is = (Err (Source fault), is)
  some_by (Ok program) is =
      let some = some_opening program texts.inputs options.pages options.slots options.steps in
      (output_of some.0, is_output some.0 (program, is, some.1) some.2)

  -- and they have one
  pub some_output : (output : Output) × IsOutput texts options output
  some_output = some_by (assembled texts.source) refl
