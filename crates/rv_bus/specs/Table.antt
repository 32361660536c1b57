-- To audit: public contracts cite this.
-- The address table (docs/BOARD.md). Accesses are at multiples of their width, and a board's memory has whole pages of
-- 4096 bytes. So all bytes of an access to the memory or the interrupt controller are there. Every other access is a
-- fault.
use Rattle.std.specs.Prelude.{ℕ, Bool, ◌+◌, ◌-◌, ◌%◌, ◌^◌, ◌&&◌, nat_lt, nat_le, List, [], ◌∷◌, ◌++◌, length, map, find, Option}
use Rattle.rv_base.specs.Limits.{ram_base}
use Rattle.rv_base.specs.Registers.{Register}
use Rattle.rv_ram.specs.Bytes.{put, value_at}
use Rattle.rv_plic.specs.Plic.{plic_register}
use Rattle.rv_mmio.specs.Timer.{offsets, timer_register}
use Rattle.rv_mmio.specs.Serial.{SerialState, serial_register}
use Rattle.rv_mmio.specs.Halt.{halted_by}
use Rattle.rv_mmio.specs.declared.serial.SerialReg.{SerialReg}
use Rattle.rv_mmio.specs.declared.serial.SerialReg.TheVariants.{Tx, Rx, Status}
use Rattle.rv_mmio.specs.declared.timer.TimerReg.{TimerReg}
use Rattle.rv_bus.specs.State.{BusState}

-- a window of the table, for accesses of some number of bytes: its first address, the number of addresses at
-- which an access may begin, and the bytes of the narrowest access that it accepts. By the offset of an access in
-- the window: the value that a load returns with the bus after it, and the bus after a store of a value
pub record Window : Type 0 where
  pub first : ℕ
  pub places : ℕ
  pub narrowest : ℕ
  pub load : ℕ → ℕ × BusState
  pub store : ℕ → ℕ → BusState

-- the window of one register, by its device and the bus with another in its place
abbrev pub register_window : {D : Type 0} → ℕ → ℕ → Register D → D → (D → BusState) → Window
register_window first narrowest reg device bus_with = record {
  first = first;
  places = 1;
  narrowest = narrowest;
  load = λ off. (reg.word device, bus_with (reg.loaded device));
  store = λ off v. bus_with (reg.stored device v);
}

-- the memory: accesses of n bytes
abbrev pub memory : BusState → ℕ → Window
memory b n = record {
  first = ram_base;
  places = length b.ram;
  narrowest = 1;
  load = λ off. (value_at b.ram off n, b);
  store = λ off v. record b { ram = put b.ram off n v };
}

-- a register of the serial port for accesses of n bytes: a narrow load returns its low bits
abbrev pub serial_at : ℕ → SerialReg → Register SerialState
serial_at n reg = record (serial_register reg) { word = λ s. (serial_register reg).word s % 256 ^ n }

abbrev pub serial_port : BusState → ℕ → ℕ → SerialReg → Window
serial_port b n first reg = register_window first 1 (serial_at n reg) b.serial (λ s. record b { serial = s })

-- the halt register reads 0
abbrev pub halt_register : BusState → Window
halt_register b = record {
  first = 0x00100000;
  places = 1;
  narrowest = 4;
  load = λ off. (0, b);
  store = λ off v. record b { halt = halted_by b.halt v };
}

abbrev pub machine_timer : BusState → ℕ → TimerReg → Window
machine_timer b first reg = register_window first 4 (timer_register reg) b.timer (λ t. record b { timer = t })

abbrev pub interrupt_controller : BusState → Window
interrupt_controller b = record {
  first = 0x0c000000;
  places = 0x4000000;
  narrowest = 4;
  load = λ off. ((plic_register off).word b.plic, record b { plic = (plic_register off).loaded b.plic });
  store = λ off v. record b { plic = (plic_register off).stored b.plic v };
}

-- the windows for accesses of n bytes
abbrev pub windows : BusState → ℕ → List Window
windows b n =
    memory b n
    ∷ serial_port b n 0x10000000 Tx
    ∷ serial_port b n 0x10000004 Rx
    ∷ serial_port b n 0x10000008 Status
    ∷ halt_register b
    ∷ map (λ row. machine_timer b (0x02000000 + row.0) row.1) offsets
    ++ interrupt_controller b ∷ []

-- whether a window accepts an access of n bytes at an address
abbrev pub accepts : ℕ → ℕ → Window → Bool
accepts a n window =
    nat_le window.narrowest n && (nat_le window.first a && nat_lt (a - window.first) window.places)

-- the first window that accepts an access of n bytes at an address, if there is one
abbrev pub window_at : BusState → ℕ → ℕ → Option Window
window_at b a n = find (accepts a n) (windows b n)
