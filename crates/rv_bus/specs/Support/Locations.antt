-- Not to audit: private contracts alone cite this. proofs/ proves that it is what the address table says.
-- The locations of the address table, as the code finds them: what is at an address, and then whether it takes
-- the access.
use Rattle.std.specs.Prelude.{ℕ, Bool, true, false, ◌-◌, ◌==◌, ◌&&◌, nat_lt, nat_le, if◌then◌else◌, List, [], ◌∷◌}
use Rattle.rv_base.specs.Limits.{ram_base}
use Rattle.rv_isa.specs.declared.op.Width.{Width}
use Rattle.rv_isa.specs.declared.op.Width.TheVariants.{One, Two, Four}
use Rattle.rv_mmio.specs.declared.serial.SerialReg.TheVariants.{Tx, Rx, Status}
use Rattle.rv_mmio.specs.declared.timer.TimerReg.TheVariants.{Msip, MtimecmpLow, MtimecmpHigh, MtimeLow, MtimeHigh}
use Rattle.rv_bus.specs.declared.locations.Location.{Location}
use Rattle.rv_bus.specs.declared.locations.Location.TheVariants.{Ram, Halt, Timer, Plic, Serial, Nowhere}

-- the registers with an address of their own, in the order of the address table
abbrev pub registers : List (ℕ × Location)
registers =
    (0x10000000, Serial Tx)
    ∷ (0x10000004, Serial Rx)
    ∷ (0x10000008, Serial Status)
    ∷ (0x00100000, Halt)
    ∷ (0x02000000, Timer Msip)
    ∷ (0x02004000, Timer MtimecmpLow)
    ∷ (0x02004004, Timer MtimecmpHigh)
    ∷ (0x0200bff8, Timer MtimeLow)
    ∷ (0x0200bffc, Timer MtimeHigh)
    ∷ []

-- whether an address is one of `size` from the first on
abbrev pub has : ℕ → ℕ → ℕ → Bool
has first size a = nat_le first a && nat_lt (a - first) size

-- the interrupt controller, if it is at an address
abbrev pub controller : ℕ → Location
controller a = if has 0x0c000000 0x4000000 a then Plic (a - 0x0c000000) else Nowhere

-- the first of these registers at an address, or else the interrupt controller
abbrev pub device_in : List (ℕ × Location) → ℕ → Location
device_in [] a = controller a
device_in (x ∷ xs) a = if a == x.0 then x.1 else device_in xs a

abbrev pub is_word : Width → Bool
is_word One = false
is_word Two = false
is_word Four = true

-- whether a device takes accesses of a width: the serial port takes all, the others take words
abbrev pub takes : Location → Width → Bool
takes (Serial reg) w = true
takes p w = is_word w

-- a device, if it takes accesses of a width
abbrev pub for_width : Location → Width → Location
for_width p w = if takes p w then p else Nowhere

-- the location at an address, where the memory has `size` bytes
unfoldable pub location_of : ℕ → ℕ → Width → Location
location_of size a w =
    if has ram_base size a then Ram (a - ram_base) else for_width (device_in registers a) w
