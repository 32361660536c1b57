-- The numbers of the sets that a fence orders, and of the control registers with names.
use Rattle.std.proofs.lemmas.Bool.Decides.{nat_tests}
use Rattle.std.proofs.Common.{arith, ◌≡◌, ℕ, ◌<◌, Bool, true, List, [], ◌∷◌, refl, rules}
use Rattle.std.specs.Prelude.{Some, ◌&&◌, nat_lt}
use Rattle.std.specs.List.{list_all}
use Rattle.rv_base.specs.Tables.{lookup}
use Rattle.rv_isa.specs.Names.{csr_names}
use Rattle.rv_source.specs.Fields.{fence_sets}

pub both_parts : (b c : Bool) → (b && c) ≡ true → (b ≡ true) × (c ≡ true)
both_parts b c e = search rules

rows_below : (bound : ℕ) (name : List ℕ) (rows : List (List ℕ × ℕ)) (n : ℕ)
    → list_all (λ row. nat_lt row.1 bound) rows ≡ true → lookup name rows ≡ Some n → n < bound
rows_below bound name [] n e h = cc
rows_below bound name (row ∷ rows) n e h = grind (arith, nat_tests, rows_below bound name rows n)

pub below : (name : List ℕ) (n : ℕ) → lookup name fence_sets ≡ Some n → n < 16
unfolding fence_sets
below name n h = rows_below 16 name fence_sets n refl h

pub csr_below : (name : List ℕ) (n : ℕ) → lookup name csr_names ≡ Some n → n < 4096
unfolding csr_names
csr_below name n h = rows_below 4096 name csr_names n refl h
