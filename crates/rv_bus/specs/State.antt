-- To audit: public contracts cite this.
-- The state of the bus: the memory as its bytes, and a record for each device.
use Rattle.std.specs.Prelude.{ℕ, List, Option, None}
use Rattle.rv_plic.specs.Plic.{PlicState, plic_at_reset}
use Rattle.rv_mmio.specs.Timer.{TimerState, timer_at_reset}
use Rattle.rv_mmio.specs.Serial.{SerialState, serial_at_reset}

-- the memory and the devices
pub record BusState : Type 0 where
  pub ram : List ℕ
  pub timer : TimerState
  pub plic : PlicState
  pub serial : SerialState
  pub halt : Option ℕ

-- the bus at reset, over a memory of these bytes
abbrev pub bus_at_reset : List ℕ → BusState
bus_at_reset ram = record { ram = ram; timer = timer_at_reset; plic = plic_at_reset; serial = serial_at_reset; halt = None }
