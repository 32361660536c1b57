-- The names of a source and their invariant.
-- The language is this project's own: docs/ASSEMBLER.md.
-- Not to audit: private contracts and proofs alone cite this.
use Rattle.std.specs.Prelude.{◌≡◌, ℕ, List, ℤ, Vec, map, true}
use Rattle.std.specs.List.{AllByRecursion}
use Rattle.rv_program.specs.Program.{is_word}

-- the entries of a map, as names with their values
abbrev pub definitions_of : {A : Type 0} → List (Vec ℕ A × ℤ) → List (List ℕ × ℤ)
definitions_of = map (λ e. (e.0.items, e.1))

-- each value fits into 32 bits, signed or unsigned
abbrev pub AreWords : List (List ℕ × ℤ) → Type 0
AreWords ds = AllByRecursion (λ d. is_word d.1 ≡ true) ds
