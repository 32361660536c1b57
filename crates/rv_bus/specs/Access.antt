-- To audit: public contracts cite this.
-- Loads, stores and fetches on the bus, and its interrupt lines.
use Rattle.std.specs.Prelude.{ℕ, Bool, ◌-◌, ◌==◌, ◌||◌, nat_le, if◌then◌else◌, List, slice_get, is_some, Option, Some, None}
use Rattle.std.specs.Option.{option_map}
use Rattle.rv_base.specs.Limits.{ram_base}
use Rattle.rv_isa.specs.Width.{bytes_of}
use Rattle.rv_isa.specs.declared.op.Width.{Width}
use Rattle.rv_isa.specs.declared.Lines.{Lines}
use Rattle.rv_ram.specs.Bytes.{value_at}
use Rattle.rv_plic.specs.Plic.{is_notified}
use Rattle.rv_mmio.specs.Timer.{is_due}
use Rattle.rv_bus.specs.State.{BusState}
use Rattle.rv_bus.specs.Table.{window_at}

-- the value that a load returns, with the bus after it, or none for a fault
unfoldable pub load : BusState → ℕ → Width → Option (ℕ × BusState)
load b a w = option_map (λ window. window.load (a - window.first)) (window_at b a (bytes_of w))

-- the bus after a store, or none for a fault
unfoldable pub store : BusState → ℕ → Width → ℕ → Option BusState
store b a w v = option_map (λ window. window.store (a - window.first) v) (window_at b a (bytes_of w))

-- the byte of the memory at an address, if there is one
abbrev pub ram_byte : List ℕ → ℕ → Option ℕ
ram_byte ram a = if nat_le ram_base a then slice_get ram (a - ram_base) else None

-- whether a store at an address goes into the memory or to the transmit register
unfoldable pub keeps_stores : BusState → ℕ → Bool
keeps_stores b a = is_some (ram_byte b.ram a) || (a == 0x10000000)

-- the word that a fetch returns, or none for a fault: only the memory can be fetched from
unfoldable pub fetch : List ℕ → ℕ → Option ℕ
fetch ram a = if is_some (ram_byte ram a) then Some (value_at ram (a - ram_base) 4) else None

-- the levels of the interrupt lines into the hart
abbrev pub lines_of : BusState → Lines
lines_of b = record { software = b.timer.software; timer = is_due b.timer; external = is_notified b.plic }
