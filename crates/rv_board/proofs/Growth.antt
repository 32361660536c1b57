-- An event for which room may have to be made is a step that writes.
use Rattle.std.proofs.Common.{◌≡◌, ℕ, true, List, Some, arith, rules}
use Rattle.std.specs.Prelude.{slice_get}
use Rattle.rv_ram.specs.Room.{RoomRule}
use Rattle.rv_hart.proofs.Growth as hart
use Rattle.rv_board.specs.Support.State.{BoardState}
use Rattle.rv_board.specs.Move.{writes}
use Rattle.rv_board.specs.Room.{NextWantsRoom, RoomIsWritten, wants_room}
use Rattle.rv_board.specs.declared.event.Event.{Event}

pub room_writes : RoomIsWritten
unfolding wants_room writes
room_writes rule b _ is = search (rules, arith, hart.room_writes)

-- the next event of a list
pub next_writes : (rule : RoomRule) (new : BoardState) (events : List Event) (done : ℕ)
    → NextWantsRoom rule new events done → (e : Event) → slice_get events done ≡ Some e → writes new e ≡ true
next_writes rule new events done next e at = room_writes rule new e (next e at)
