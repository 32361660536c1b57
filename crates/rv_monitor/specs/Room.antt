-- The largest number of bytes that the answer of a command may have (this project's own: docs/MONITOR.md),
-- and the steps for which room may have to be made.
-- To audit: public contracts cite this.
use Rattle.std.specs.Prelude.{◌≡◌, ◌⊎◌, ℕ, ◌+◌, ◌*◌, ◌<◌, true, false, List, length, Option, Some, None, unwrap_or}
use Rattle.std.specs.FinSet as set
use Rattle.std.specs.Int.{div_ceil}
use Rattle.rv_ram.specs.Room.{RoomRule}
use Rattle.rv_board.specs.Room.{wants_room}
use Rattle.rv_board.specs.declared.event.Event.TheVariants as event
use Rattle.rv_commands.specs.declared.command.Command.{Command}
use Rattle.rv_commands.specs.declared.command.Command.TheVariants.{Step, Go, SetBreak, ClearBreak, Registers, ControlRegister, Memory, Instruction, Traps, Edges, Quit, Nothing}
use Rattle.rv_monitor.specs.State.{SessionState}
use Rattle.rv_monitor.specs.Stops.{WasRefused}

-- `r`: 13 for each of 32 registers, and the 19 of the pc's line
abbrev pub registers_room : ℕ
registers_room = 435

-- `p`: the name, `=`, eight digits and the line end
abbrev pub control_register_room : List ℕ → ℕ
control_register_room name = length name + 10

-- `m`: 10 for each line's address and end, and 3 for each byte
abbrev pub memory_room : ℕ → ℕ
memory_room count = 10 * div_ceil count 16 + 3 * count

-- `i`: the address and the word, 8 digits each, the 19 bytes of an instruction's text, and the signs between
-- and after them
abbrev pub instruction_room : ℕ
instruction_room = 39

-- `t`: 47 for each trap that is kept
abbrev pub traps_room : ℕ → ℕ
traps_room count = 47 * count

-- `e`: a source of up to 2 digits, a count of up to 10 digits, and the words around them
abbrev pub edges_room : ℕ
edges_room = 27

-- `s` and `c`: the word, the 18 bytes of the pc and the mode, a count of up to 20 digits, and the words
-- around them
abbrev pub stop_room : List ℕ → ℕ
stop_room word = length word + 52

-- the largest number of bytes of the answer of a command; `None` stands for a line that is no command
abbrev pub longest : Option Command → SessionState → ℕ
longest None s = 2
longest (Some (Step n)) s = 58
longest (Some (Go n)) s = 58
longest (Some (SetBreak addr)) s = 15
longest (Some (ClearBreak addr)) s = 15
longest (Some Registers) s = registers_room
longest (Some (ControlRegister name csr)) s = control_register_room name
longest (Some (Memory addr count)) s = memory_room count
longest (Some (Instruction addr)) s = instruction_room
longest (Some Traps) s = traps_room (length s.timed.board.traps)
longest (Some (Edges source)) s = edges_room
longest (Some Quit) s = 0
longest (Some Nothing) s = 0

-- the next step of a session may have to make room, by the rule of its memory
abbrev pub NextWantsRoom : RoomRule → SessionState → Type 0
NextWantsRoom rule s = wants_room rule s.timed.board event.Step ≡ true

-- memory ran out where the text had room for this many bytes: those are fewer than the longest answer of the
-- command has, since room for that is made before anything changes; or it was at a step that may have to make
-- room, or at a new breakpoint where the breakpoints had no room
abbrev pub LacksRoom : RoomRule → Option Command → ℕ → SessionState → SessionState → Type 0
LacksRoom rule (Some (Step n)) room old new =
    ((room < longest (Some (Step n)) old) × (new ≡ old))
    ⊎ (WasRefused set.empty n old new × NextWantsRoom rule new)
LacksRoom rule (Some (Go n)) room old new =
    ((room < longest (Some (Go n)) old) × (new ≡ old))
    ⊎ (WasRefused old.breakpoints.addresses (unwrap_or n old.limit) old new × NextWantsRoom rule new)
LacksRoom rule (Some (SetBreak addr)) room old new =
    (room < longest (Some (SetBreak addr)) old)
    ⊎ ((set.contains old.breakpoints.addresses addr ≡ false) × (old.breakpoints.room ≡ 0))
LacksRoom rule command room old new = room < longest command old
