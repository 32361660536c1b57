-- Not to audit: private contracts alone cite this. proofs/ proves that it is what the address table says.
-- Accesses by the locations in which the code looks.
use Rattle.std.specs.Prelude.{◌≡◌, ℕ, Bool, true, false, List, length, Option, Some, None}
use Rattle.std.specs.Option.{option_map}
use Rattle.rv_base.specs.Limits.{ram_base}
use Rattle.rv_base.specs.Registers.{Register}
use Rattle.rv_isa.specs.declared.op.Width.{Width}
use Rattle.rv_isa.specs.Width.{bytes_of}
use Rattle.rv_ram.specs.Bytes.{put, value_at}
use Rattle.rv_ram.specs.Room.{RoomRule}
use Rattle.rv_plic.specs.Plic.{plic_register}
use Rattle.rv_mmio.specs.Timer.{timer_register}
use Rattle.rv_mmio.specs.Halt.{halted_by}
use Rattle.rv_mmio.specs.Room as console
use Rattle.rv_mmio.specs.declared.serial.SerialReg.TheVariants.{Tx}
use Rattle.rv_bus.specs.State.{BusState}
use Rattle.rv_bus.specs.Access.{keeps_stores}
use Rattle.rv_bus.specs.Access as access
use Rattle.rv_bus.specs.Room.{wants_room}
use Rattle.rv_bus.specs.Table.{serial_at}
use Rattle.rv_bus.specs.Support.Locations.{has, location_of}
use Rattle.rv_bus.specs.declared.locations.Location.{Location}
use Rattle.rv_bus.specs.declared.locations.Location.TheVariants.{Ram, Halt, Timer, Plic, Serial, Nowhere}

-- whether an address is in the memory
abbrev pub in_memory : List ℕ → ℕ → Bool
in_memory ram a = has ram_base (length ram) a

-- the location at an address
abbrev pub location : BusState → ℕ → Width → Location
location b a w = location_of (length b.ram) a w

-- what an access reaches: the value that a load returns with the bus after it, and the bus after a store of a value
abbrev pub Reached : Type 0
Reached = (ℕ × BusState) × (ℕ → BusState)

-- a register of a device, by that device and the bus with another in its place
abbrev pub reach : {D : Type 0} → Register D → D → (D → BusState) → Reached
reach reg d bus_of = ((reg.word d, bus_of (reg.loaded d)), λ v. bus_of (reg.stored d v))

-- what an access of n bytes reaches at a location, as in the address table
abbrev pub reach_at : BusState → Location → ℕ → Option Reached
reach_at b (Ram off) n = Some ((value_at b.ram off n, b), λ v. record b { ram = put b.ram off n v })
reach_at b Halt n = Some ((0, b), λ v. record b { halt = halted_by b.halt v })
reach_at b (Timer reg) n = Some (reach (timer_register reg) b.timer (λ t. record b { timer = t }))
reach_at b (Plic off) n = Some (reach (plic_register off) b.plic (λ p. record b { plic = p }))
reach_at b (Serial reg) n = Some (reach (serial_at n reg) b.serial (λ s. record b { serial = s }))
reach_at b Nowhere n = None

-- the value that a load returns with the bus after it, and the bus after a store, or none for a fault
abbrev pub load_at : BusState → Location → Width → Option (ℕ × BusState)
load_at b p w = option_map (λ reached. reached.0) (reach_at b p (bytes_of w))

abbrev pub store_at : BusState → Location → Width → ℕ → Option BusState
store_at b p w v = option_map (λ reached. reached.1 v) (reach_at b p (bytes_of w))

-- whether a location is in the memory or the transmit register
abbrev pub is_written : Location → Bool
is_written (Ram off) = true
is_written (Serial Tx) = true
is_written p = false

-- whether a store at a location may have to make room: in the memory, by its rule, or in the console
abbrev pub wants_room_at : RoomRule → BusState → Location → Width → ℕ → Bool
wants_room_at rule b (Ram off) w v = rule b.ram off w v
wants_room_at rule b (Serial reg) w v = console.wants_room b.serial reg
wants_room_at rule b p w v = false

-- the word that a fetch returns
abbrev pub fetch_at : List ℕ → Location → Option ℕ
fetch_at ram (Ram off) = Some (value_at ram off 4)
fetch_at ram p = None

-- what the accesses at an address are, by the location there
pub record IsFor (b : BusState) (a : ℕ) (w : Width) (p : Location) : Type 0 where
  pub load : access.load b a w ≡ load_at b p w
  pub store : (v : ℕ) → access.store b a w v ≡ store_at b p w v
  pub writes : keeps_stores b a ≡ is_written p
  pub room : (rule : RoomRule) (v : ℕ) → wants_room rule b a w v ≡ wants_room_at rule b p w v
  pub fetch : access.fetch b.ram a ≡ fetch_at b.ram p
