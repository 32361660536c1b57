-- Not to audit: private contracts alone cite this.
-- The locations that an access may use.
use Rattle.std.specs.Prelude.{◌≡◌, ℕ, ◌+◌, ◌%◌, ◌≤◌, ◌<◌}
use Rattle.rv_base.specs.Limits.{ram_base}
use Rattle.rv_isa.specs.declared.op.Width.{Width}
use Rattle.rv_isa.specs.Width.{bytes_of}
use Rattle.rv_bus.specs.declared.locations.Location.{Location}
use Rattle.rv_bus.specs.declared.locations.Location.TheVariants.{Ram, Plic}

-- whether an access may use a location: one of the memory is in range and aligned, and belongs to the
-- address; one of the interrupt controller is aligned, and within the window
abbrev pub IsWithin : ℕ → ℕ → Width → Location → Type 0
IsWithin size a w (Ram off) = (off + bytes_of w ≤ size) × (off % bytes_of w ≡ 0) × (a ≡ ram_base + off)
IsWithin size a w (Plic off) = (off % 4 ≡ 0) × (off < 0x4000000)
IsWithin size a w p = Unit {0}
