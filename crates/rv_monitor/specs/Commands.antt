-- To audit: public contracts cite this.
-- The session that each command leaves, and its answer; `None` stands for a line that is no command (this
-- project's own: docs/MONITOR.md).
use Rattle.std.specs.Prelude.{◌≡◌, ◌⊎◌, List, ℕ, [], ◌++◌, if◌then◌else◌, Option, Some, None, codes, unwrap_or}
use Rattle.std.specs.List.{flat_map}
use Rattle.std.specs.FinSet as set
use Rattle.rv_program.specs.Program.{value_of}
use Rattle.rv_commands.specs.Commands.{command_of}
use Rattle.rv_commands.specs.declared.command.Command.{Command}
use Rattle.rv_commands.specs.declared.command.Command.TheVariants.{Step, Go, SetBreak, ClearBreak, Registers, ControlRegister, Memory, Instruction, Traps, Edges}
use Rattle.rv_base.specs.Digits.{hex}
use Rattle.rv_monitor.specs.Views.{line, registers_text, control_register_text, memory_text, instruction_text, trap_text, edges_text, stop_text}
use Rattle.rv_monitor.specs.declared.stop.Stop.{Stop}
use Rattle.rv_monitor.specs.declared.stop.Stop.TheVariants.{Halted, Breakpoint, Limit}
use Rattle.rv_monitor.specs.State.{SessionState, with_break, without_break}
pub use Rattle.rv_monitor.specs.Stops.{Took}
use Rattle.rv_monitor.specs.Stops.{WasRefused, stop_of}

-- ---- command lines

-- the command of a line, in which a symbol is a name of the session's program
abbrev pub command_in : List ℕ → SessionState → Option Command
command_in line s = command_of line (value_of s.program.symbols)

-- ---- the session that a command leaves

-- the session after a command; `c` without a number may take as many steps as the session may take in all
abbrev pub Leaves : Option Command → SessionState → SessionState → Type 0
Leaves (Some (Step n)) old new = Took set.empty n old new
Leaves (Some (Go n)) old new = Took old.breakpoints.addresses (unwrap_or n old.limit) old new
Leaves (Some (SetBreak addr)) old new = new ≡ with_break old addr
Leaves (Some (ClearBreak addr)) old new = new ≡ without_break old addr
Leaves _ old new = new ≡ old

-- the session after a command where memory ran out, at a step or before anything changed
abbrev pub LeavesRefused : Option Command → SessionState → SessionState → Type 0
LeavesRefused (Some (Step n)) old new = (new ≡ old) ⊎ WasRefused set.empty n old new
LeavesRefused (Some (Go n)) old new =
    (new ≡ old) ⊎ WasRefused old.breakpoints.addresses (unwrap_or n old.limit) old new
LeavesRefused _ old new = new ≡ old

-- ---- the answer of a command

-- the word of a stop
abbrev pub word_of : Stop → List ℕ
word_of Halted = codes "halted"
word_of Breakpoint = codes "break"
word_of Limit = codes "limit"

-- the answer, by the session before and after the command: `s` and `c` say why the steps ended, and how the
-- board stands
abbrev pub answer : Option Command → SessionState → SessionState → List ℕ
answer None old new = line (codes "?")
answer (Some (Step n)) old new = stop_text new.timed.board (word_of (stop_of set.empty old new))
answer (Some (Go n)) old new = stop_text new.timed.board (word_of (stop_of old.breakpoints.addresses old new))
answer (Some (SetBreak addr)) old new = line (codes "break " ++ hex 8 addr)
answer (Some (ClearBreak addr)) old new =
    line (if set.contains old.breakpoints.addresses addr then codes "clear " ++ hex 8 addr else codes "no break")
answer (Some Registers) old new = registers_text old.timed.board
answer (Some (ControlRegister name csr)) old new = control_register_text old.timed.board name csr
answer (Some (Memory addr count)) old new = memory_text old.timed.board addr count
answer (Some (Instruction addr)) old new = instruction_text old.timed.board addr
answer (Some Traps) old new = flat_map trap_text old.timed.board.traps
answer (Some (Edges source)) old new = edges_text old.timed.board source
answer _ old new = []
