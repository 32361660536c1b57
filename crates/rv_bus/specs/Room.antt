-- Stores for which room may have to be made, and which so may be out of memory.
-- To audit: public contracts cite this.
use Rattle.std.specs.Prelude.{ℕ, Bool, ◌-◌, ◌==◌, ◌&&◌, is_some, if◌then◌else◌}
use Rattle.rv_base.specs.Limits.{ram_base}
use Rattle.rv_isa.specs.declared.op.Width.{Width}
use Rattle.rv_ram.specs.Room.{RoomRule}
use Rattle.rv_mmio.specs.Room.{is_full}
use Rattle.rv_bus.specs.State.{BusState}
use Rattle.rv_bus.specs.Access.{ram_byte}

-- whether a store may have to make room: into the memory by the memory's rule, and to the transmit register where
-- the console may be full
unfoldable pub wants_room : RoomRule → BusState → ℕ → Width → ℕ → Bool
wants_room rule b a w v =
    if is_some (ram_byte b.ram a) then rule b.ram (a - ram_base) w v else (a == 0x10000000) && is_full b.serial
