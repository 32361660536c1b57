-- Tables, row by row.
use Rattle.std.proofs.Common.{rules, ◌≡◌, ◌≤◌, ◌<◌, ◌+◌, ℕ, List, ◌∷◌, length, drop, true, false, refl, arith}
use Rattle.std.specs.Prelude.{Some, None, get_or, nat_eq}
use Rattle.std.specs.Borrow.{Bor}
use Rattle.std.specs.Str.{bytes_eq}
use Rattle.std.proofs.lemmas.Bool.Decides.{nat_tests}
use Rattle.std.proofs.lemmas.List.{drop_all, drop_more}
use Rattle.rv_base.specs.Tables.{lookup, rows}

-- a row of another name
pub other_row : {F : Type 0} (name : List ℕ) (table : List (Bor (List ℕ) × F)) (row : Bor (List ℕ) × F)
    (i : ℕ) → i < length table → row ≡ get_or table i row → bytes_eq row.0.now name ≡ false →
    lookup name (rows (drop i table)) ≡ lookup name (rows (drop (i + 1) table))
other_row name table row i h e k = let f = drop_more table i row h in rw (f, ← e, k) refl

-- the row of the name
pub same_row : {F : Type 0} (name : List ℕ) (table : List (Bor (List ℕ) × F)) (row : Bor (List ℕ) × F)
    (i : ℕ) → i < length table → row ≡ get_or table i row → bytes_eq row.0.now name ≡ true →
    lookup name (rows (drop i table)) ≡ Some row.1
same_row name table row i h e k = let f = drop_more table i row h in rw (f, ← e, k) refl

-- no row is left
pub no_row : {F : Type 0} (name : List ℕ) (table : List (Bor (List ℕ) × F)) (i : ℕ) → length table ≤ i →
    lookup name (rows (drop i table)) ≡ None
no_row name table i h = let f = drop_all i table h in rw f refl

same_byte : (m n : ℕ) → nat_eq m n ≡ nat_eq n m
same_byte m n = grind (arith, nat_tests)

-- names are compared in either order
pub bytes_eq-swapped : (xs ys : List ℕ) → bytes_eq xs ys ≡ bytes_eq ys xs
bytes_eq-swapped (x ∷ xs) (y ∷ ys) = rw (same_byte x y, bytes_eq-swapped xs ys) refl
bytes_eq-swapped xs ys = search rules

pub ruleset row_steps = (other_row, same_row, no_row)
