-- Texts with room: the bytes that a text may still grow by without asking the allocator.
-- To audit: public contracts cite this.
use Rattle.std.specs.Prelude.{◌≡◌, ℕ, ◌+◌, ◌≤◌, List, ◌++◌, length, Vec, vec_len, vec_capacity}

-- the text has room for a piece
abbrev pub HasRoom : {Z : Type 0} → Vec ℕ Z → List ℕ → Type 0
HasRoom text piece = vec_len text + length piece ≤ vec_capacity text

-- the text has grown by a piece, and its capacity is no less
abbrev pub Appended : {Z : Type 0} → Vec ℕ Z → Vec ℕ Z → List ℕ → Type 0
Appended old new piece =
    (new.items ≡ old.items ++ piece) × (vec_len new ≡ vec_len old + length piece)
    × (vec_capacity old ≤ vec_capacity new)
