-- To audit: public contracts cite this.
-- Tables of names.
use Rattle.std.specs.Prelude.{ℕ, List, [], ◌∷◌, Option, Some, None, if◌then◌else◌, map}
use Rattle.std.specs.Borrow.{Bor}
use Rattle.std.specs.Str.{bytes_eq}

-- what stands beside a name, at the first of two rows with the name, or none
abbrev pub lookup : {A : Type 0} → List ℕ → List (List ℕ × A) → Option A
lookup name [] = None
lookup name (row ∷ more) = if bytes_eq row.0 name then Some row.1 else lookup name more

-- the rows of a table whose names are lent, with the names as bytes
abbrev pub rows : {A : Type 0} → List (Bor (List ℕ) × A) → List (List ℕ × A)
rows table = map (λ row. (row.0.now, row.1)) table
