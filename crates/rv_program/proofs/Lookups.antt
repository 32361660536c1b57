-- Looking a name up among the names of a source.
use Rattle.std.proofs.Common.{◌≡◌, ℕ, List, [], ◌∷◌, ◌++◌, ℤ, true, refl, rules, Vec}
use Rattle.std.proofs.lemmas.List.{map-append}
use Rattle.std.specs.Prelude.{IfSome, nat_eq}
use Rattle.std.specs.Map.{lookup}
use Rattle.rv_base.specs.Tables.{lookup as named}
use lib.Pointwise.{pointwise}
use Rattle.rv_program.specs.Program.{is_word}
use Rattle.rv_program.specs.Support.Kept.{AreWords, definitions_of}
use Rattle.rv_base.proofs.TableRows.{bytes_eq-swapped}

pub lookup_value : {A : Type 0} (es : List (Vec ℕ A × ℤ)) (name : List ℕ)
    → lookup (λ k. pointwise nat_eq name k.items) es ≡ named name (definitions_of es)
lookup_value [] name = refl
lookup_value (e ∷ es) name = search (rules, bytes_eq-swapped, lookup_value es name)

pub definitions_of-push : {A : Type 0} (es : List (Vec ℕ A × ℤ)) (k : Vec ℕ A) (v : ℤ)
    → definitions_of (es ++ (k, v) ∷ []) ≡ definitions_of es ++ (k.items, v) ∷ []
definitions_of-push es k v = search (rules, map-append)

pub word_of_name : (ds : List (List ℕ × ℤ)) (name : List ℕ) → AreWords ds
    → IfSome (named name ds) (λ v. is_word v ≡ true)
word_of_name [] name h = tt
word_of_name (d ∷ ds) name h = search (rules, word_of_name ds name)

pub AreWords-push : (ds : List (List ℕ × ℤ)) (name : List ℕ) (v : ℤ) → AreWords ds → is_word v ≡ true
    → AreWords (ds ++ (name, v) ∷ [])
AreWords-push [] name v h w = search rules
AreWords-push (d ∷ ds) name v h w = search (rules, AreWords-push ds name v)
