-- Events for which room may have to be made: steps that retire a store for which the memory, by its rule, or
-- the console may have no room left.
-- To audit: public contracts cite this.
use Rattle.std.specs.Prelude.{◌≡◌, ℕ, Bool, true, false, List, slice_get, Option, Some, None}
use Rattle.rv_ram.specs.Room.{RoomRule}
use Rattle.rv_hart.specs.Room as hart
use Rattle.rv_board.specs.BoardState.{BoardState}
use Rattle.rv_board.specs.Move.{writes}
use Rattle.rv_board.specs.declared.event.Event.{Event}
use Rattle.rv_board.specs.declared.event.Event.TheVariants.{Step}

abbrev pub wants_room_by : RoomRule → Option ℕ → BoardState → Event → Bool
wants_room_by rule None b Step = hart.wants_room rule b.machine
wants_room_by rule halt b e = false

-- whether an event may have to make room
unfoldable pub wants_room : RoomRule → BoardState → Event → Bool
wants_room rule b e = wants_room_by rule b.machine.bus.halt b e

-- the next event of a list, after the first `done`, may have to make room
abbrev pub NextWantsRoom : RoomRule → BoardState → List Event → ℕ → Type 0
NextWantsRoom rule new events done =
    (e : Event) → slice_get events done ≡ Some e → wants_room rule new e ≡ true

-- only an event that writes may have to make room, whatever the memory's rule
abbrev pub RoomIsWritten : Type 0
RoomIsWritten =
    (rule : RoomRule) (b : BoardState) (e : Event) → wants_room rule b e ≡ true → writes b e ≡ true
