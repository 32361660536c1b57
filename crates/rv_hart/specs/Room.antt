-- Steps that store where room may have to be made: in the memory, by its rule, or in the console.
-- To audit: public contracts cite this.
use Rattle.std.specs.Prelude.{ℕ, Bool, false, ◌%◌, ◌==◌, ◌&&◌, Result, Ok, Err}
use Rattle.rv_isa.specs.Width.{bytes_of}
use Rattle.rv_isa.specs.declared.op.Width.{Width}
use Rattle.rv_isa.specs.declared.kind.Kind.{Kind}
use Rattle.rv_isa.specs.declared.kind.Kind.TheVariants.{Store}
use Rattle.rv_pmp.specs.declared.access.Access.TheVariants as access
use Rattle.rv_ram.specs.Room.{RoomRule}
use Rattle.rv_bus.specs.Room as bus
use Rattle.rv_hart.specs.State.{Machine}
use Rattle.rv_hart.specs.Effect.{may_access, plus, reg}
use Rattle.rv_hart.specs.Step.{fetched, ticked}
use Rattle.rv_hart.specs.declared.trap.Trap.{Trap}

-- whether a store retires and may have to make room
unfoldable pub store_grows : RoomRule → Machine → Width → ℕ → ℕ → Bool
store_grows rule m w addr v =
    (addr % bytes_of w == 0) && (may_access m access.Write addr w && bus.wants_room rule m.bus addr w v)

-- whether an instruction may have to
unfoldable pub may_grow : RoomRule → Kind → Machine → Bool
may_grow rule (Store w source base offset) m = store_grows rule m w (plus (reg m base) offset) (reg m source)
may_grow rule k m = false

-- whether a step may have to, by its instruction
abbrev pub attempt_grows : RoomRule → Machine → Result Kind Trap → Bool
attempt_grows rule m (Ok k) = may_grow rule k m
attempt_grows rule m (Err t) = false

unfoldable pub wants_room : RoomRule → Machine → Bool
wants_room rule m = attempt_grows rule (ticked m) (fetched (ticked m))
