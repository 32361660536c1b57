-- Not to audit: private contracts alone cite this.
-- Texts that grow within their room.
use Rattle.std.specs.Prelude.{◌≡◌, ℕ, ◌+◌, ◌≤◌, List, ◌++◌, Vec, vec_len, vec_capacity}

-- the text has grown by a piece of that many bytes, and its capacity is no less
abbrev pub GrewBy : {Z : Type 0} → Vec ℕ Z → Vec ℕ Z → List ℕ → ℕ → Type 0
GrewBy old new piece count =
    (new.items ≡ old.items ++ piece) × (vec_len new ≡ vec_len old + count)
    × (vec_capacity old ≤ vec_capacity new)
