-- Which writes into a memory may have to make room, and so may be out of memory.
-- To audit: public contracts cite this.
use Rattle.std.specs.Prelude.{ℕ, Bool, List}
use Rattle.rv_isa.specs.declared.op.Width.{Width}

-- whether a write may have to make room: by the bytes of the memory, and its offset, width and value
abbrev pub RoomRule : Type 0
RoomRule = List ℕ → ℕ → Width → ℕ → Bool
