-- The text that a run prints, and how the run ends (this project's own: docs/BOARD.md).
-- To audit: public contracts cite this.
use Rattle.std.specs.Prelude.{◌≡◌, ◌≢◌, ℕ, ◌==◌, ◌||◌, List, [], ◌∷◌, ◌++◌, Option, Some, None, Result, Ok, Err, if◌then◌else◌, length, nat_eq, codes}
use Rattle.std.specs.FinSet as set
use Rattle.std.specs.Fmt.{decimal}
use Rattle.std.specs.List.{ends_with}
use Rattle.std.specs.Option.{option_map_or}
use Rattle.rv_asm.specs.Assembly.{assembled}
use Rattle.rv_base.specs.Digits.{hex}
use Rattle.rv_base.specs.Lines.{lines}
use Rattle.rv_board.specs.BoardState.{BoardState}
use Rattle.rv_board.specs.declared.event.BootFault.TheVariants as boot_fault
use Rattle.rv_commands.specs.declared.command.Command.TheVariants.{Quit}
use Rattle.rv_monitor.specs.Commands.{Leaves, Took, answer, command_in}
use Rattle.rv_monitor.specs.State.{SessionState}
use Rattle.rv_monitor.specs.Views.{line}
use Rattle.rv_monitor.specs.Opening.{Opens}
use Rattle.rv_monitor.specs.declared.opening.OpenFault.{OpenFault}
use Rattle.rv_monitor.specs.declared.opening.OpenFault.TheVariants as opening
use Rattle.rv_program.specs.Program.{Assembly}
use Rattle.rv_io.specs.Readers.{EachText}
use Rattle.rv_options.specs.declared.Options.{Options}
use Rattle.rv_cli.specs.declared.fault.CliFault.{CliFault}
use Rattle.rv_cli.specs.declared.fault.CliFault.TheVariants.{Source, Input, BadPages, BadSlots, ImageTooLarge}
use Rattle.rv_cli.specs.declared.fault.Ending.{Ending}
use Rattle.rv_cli.specs.declared.fault.Ending.TheVariants.{Halted, Running}

-- ---- the text of a board

-- a text with a line end, unless it is empty or has one at its end
abbrev pub with_line_end : List ℕ → List ℕ
with_line_end text = if length text == 0 || ends_with nat_eq text (10 ∷ []) then text else line text

-- the console and the status line: `halted` with a code, or `running at` a pc, and after how many steps
abbrev pub printed : BoardState → List ℕ
printed b =
    let m = b.machine in
    let running = codes "running at " ++ hex 8 m.pc in
    let stand = option_map_or (λ code. codes "halted " ++ decimal code) m.bus.halt running in
    with_line_end m.bus.serial.sent ++ line (stand ++ codes " after " ++ decimal b.steps ++ codes " steps")

-- ---- commands

-- lines are executed in order, up to one that quits: from a session to another, with their answers
pub data Obeys : List (List ℕ) → SessionState → SessionState → List ℕ → Type 0 where
  none : (s : SessionState) → Obeys [] s s []
  quits : (line : List ℕ) (more : List (List ℕ)) (s : SessionState) → command_in line s ≡ Some Quit
      → Obeys (line ∷ more) s s []
  goes_on : (line text : List ℕ) (more : List (List ℕ)) (s next new : SessionState)
      → command_in line s ≢ Some Quit → Leaves (command_in line s) s next → Obeys more next new text
      → Obeys (line ∷ more) s new (answer (command_in line s) s next ++ text)

-- the commands are executed; without commands all steps are taken, past any breakpoint, and there is no
-- answer
abbrev pub Does : Option (List ℕ) → SessionState → SessionState → List ℕ → Type 0
Does None old new text = (Took set.empty old.limit old new) × (text ≡ [])
Does (Some commands) old new text = Obeys (lines commands) old new text

-- ---- the run

-- what the program of the source, which is assembled, opens with the timed list: a session on a board of the
-- options, with their steps as its limit; or the first fault of the list and the board
abbrev pub OpensFor : EachText (List ℕ) → Options → Result SessionState OpenFault → Type 0
OpensFor t o opening =
    (program : Assembly) × (assembled t.source ≡ Ok program)
    × Opens program t.inputs o.pages o.slots o.steps opening

-- the text that a run prints and how it ends, or the first fault of its texts and sizes: a session that is
-- opened does what is asked, and then the answers and the board are printed, and the run ends by the board's
-- halt; the fault is the source's, or one of the opening
abbrev pub IsOutput : EachText (List ℕ) → Options → Result (List ℕ × Ending) CliFault → Type 0
IsOutput t o (Ok done) =
    (old new : SessionState) × (answers : List ℕ) × OpensFor t o (Ok old)
    × Does t.commands old new answers × (done.0 ≡ answers ++ printed new.timed.board)
    × (done.1 ≡ option_map_or (λ code. Halted code) new.timed.board.machine.bus.halt Running)
IsOutput t o (Err (Source fault)) = assembled t.source ≡ Err fault
IsOutput t o (Err (Input n)) = OpensFor t o (Err (opening.Input n))
IsOutput t o (Err BadPages) = OpensFor t o (Err (opening.Board boot_fault.BadPages))
IsOutput t o (Err BadSlots) = OpensFor t o (Err (opening.Board boot_fault.BadSlots))
IsOutput t o (Err ImageTooLarge) = OpensFor t o (Err (opening.Board boot_fault.ImageTooLarge))
IsOutput t o (Err other) = ⊥
