-- The breakpoints of a session, with the number of places for more of them that don't ask the allocator.
-- To audit: public contracts cite this.
-- The law `breakpoints_are_a_set` says what becomes of the addresses; the room says where memory may run out.
use Rattle.std.specs.Prelude.{ℕ, ◌-◌, ◌==◌, if◌then◌else◌, nat_lt}
use Rattle.std.specs.FinSet as set
use Rattle.std.specs.FinSet.{FinSet}
use Rattle.std.specs.Ordering.{nat_cmp}

-- sets of addresses
abbrev pub Addresses : Type 0
Addresses = FinSet nat_cmp

-- the addresses, and for how many more there is room
pub record Breaks : Type 0 where
  pub addresses : FinSet nat_cmp
  pub room : ℕ

-- none, without room
abbrev pub no_breaks : Breaks
no_breaks = record { addresses = set.empty; room = 0 }

-- the room after the addresses became these: one more takes a place, and where there was none, room for nine
-- was made first; one less gives no place back
unfoldable pub room_after : Breaks → FinSet nat_cmp → ℕ
room_after b addresses =
    if nat_lt (set.len b.addresses) (set.len addresses) then (if b.room == 0 then 9 else b.room) - 1 else b.room

-- breakpoints whose addresses became these
abbrev pub with_addresses : Breaks → FinSet nat_cmp → Breaks
with_addresses b addresses = record { addresses = addresses; room = room_after b addresses }

-- breakpoints with one address more, and with one less
abbrev pub with_address : Breaks → ℕ → Breaks
with_address b address = with_addresses b (set.insert b.addresses address)

abbrev pub without_address : Breaks → ℕ → Breaks
without_address b address = with_addresses b (set.remove b.addresses address)
