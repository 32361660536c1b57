-- A step for which room may have to be made retires a store into the memory or to the transmit register.
use Rattle.std.proofs.Common.{rules, ◌≡◌, ℕ, true}
use Rattle.std.specs.Prelude.{◌&&◌}
use Rattle.std.specs.Result.{is_ok}
use Rattle.rv_isa.specs.declared.op.Width.{Width}
use Rattle.rv_isa.specs.declared.kind.Kind.{Kind}
use Rattle.rv_ram.specs.Room.{RoomRule}
use Rattle.rv_bus.specs.Access.{keeps_stores}
use Rattle.rv_bus.specs.Access as bus
use Rattle.rv_bus.proofs.Rows.{room_stores}
use Rattle.rv_hart.specs.State.{Machine}
use Rattle.rv_hart.specs.Effect.{effect, execute}
use Rattle.rv_hart.specs.Support.EffectParts.{store_effect}
use Rattle.rv_hart.specs.Room.{may_grow, store_grows, wants_room}
use Rattle.rv_hart.specs.Step.{tries, writes, is_kept_store}

stores : (rule : RoomRule) (m : Machine) (w : Width) (addr v : ℕ) → store_grows rule m w addr v ≡ true
    → (is_ok (store_effect m w addr v) && keeps_stores m.bus addr) ≡ true
unfolding store_grows store_effect
stores rule m w addr v is = search (rules, room_stores)

writing : (rule : RoomRule) (k : Kind) (m : Machine) → may_grow rule k m ≡ true
    → (is_ok (effect k m) && is_kept_store k m) ≡ true
unfolding may_grow execute store_effect store_grows
writing rule k m is = search (rules, stores)

pub room_writes : (rule : RoomRule) (m : Machine) → wants_room rule m ≡ true → writes m ≡ true
unfolding wants_room writes tries
room_writes rule m is = search (rules, writing)
