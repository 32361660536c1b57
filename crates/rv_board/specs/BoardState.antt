-- The state of a board.
-- To audit: public contracts cite this.
use Rattle.std.specs.Prelude.{ℕ, List, Option}
use Rattle.rv_pmp.specs.declared.mode.Mode.TheVariants.{Machine}
use Rattle.rv_csr.specs.Registers.{read}
use Rattle.rv_bus.specs.State.{BusState}
use Rattle.rv_bus.specs.Access.{lines_of}
use Rattle.rv_hart.specs.State as hart
use Rattle.rv_board.specs.declared.event.TrapRecord.{TrapRecord}

-- the machine, the last traps, oldest first, and the number of steps
pub record BoardState : Type 0 where
  pub machine : hart.Machine
  pub traps : List TrapRecord
  pub steps : ℕ

-- a control register, as machine mode reads it
abbrev pub csr_of : BoardState → ℕ → Option ℕ
csr_of b addr = read b.machine.csrs addr Machine (lines_of b.machine.bus)

-- the board with its bus changed
abbrev pub on_bus : BoardState → (BusState → BusState) → BoardState
on_bus b change = record b { machine = record b.machine { bus = change b.machine.bus } }
