-- Parts of a board.
-- Not to audit: proofs and private contracts alone cite these. Public ones name the fields.
use Rattle.std.specs.Prelude.{ℕ, Bool, ◌||◌, List, Option}
use Rattle.rv_pmp.specs.Pmp.{PmpState, grants}
use Rattle.rv_pmp.specs.declared.access.Access.TheVariants.{Read, Write, Execute}
use Rattle.rv_pmp.specs.declared.mode.Mode.{Mode}
use Rattle.rv_pmp.specs.declared.mode.Mode.TheVariants.{User}
use Rattle.rv_bus.specs.Access.{ram_byte}
pub use Rattle.rv_board.specs.BoardState.{BoardState, csr_of}

abbrev pub pc_of : BoardState → ℕ
pc_of b = b.machine.pc

abbrev pub mode_of : BoardState → Mode
mode_of b = b.machine.mode

abbrev pub byte_of : BoardState → ℕ → Option ℕ
byte_of b a = ram_byte b.machine.bus.ram a

abbrev pub halted_of : BoardState → Option ℕ
halted_of b = b.machine.bus.halt

-- the bytes of the memory, and the registers of protection
abbrev pub memory_of : BoardState → List ℕ
memory_of b = b.machine.bus.ram

abbrev pub pmp_of : BoardState → PmpState
pmp_of b = b.machine.csrs.pmp

-- the board with these bytes in its memory
abbrev pub with_memory : BoardState → List ℕ → BoardState
with_memory b ram = record b { machine = record b.machine { bus = record b.machine.bus { ram = ram } } }

-- whether protection lets user mode read or execute the byte at an address, and whether it lets it write
-- there
abbrev pub user_sees : PmpState → ℕ → Bool
user_sees pmp addr = grants pmp User Read addr 1 || grants pmp User Execute addr 1

abbrev pub user_writes : PmpState → ℕ → Bool
user_writes pmp addr = grants pmp User Write addr 1
