-- The form of an operand, as the parser reads it.
-- Not to audit: a law says all that `form_of` is (`one_form`).
-- The language is this project's own: docs/ASSEMBLER.md.
use Rattle.std.specs.Prelude.{ℕ, ◌-◌, List, [], ◌∷◌, take, drop, length, Option, Some, None, option_and_then}
use Rattle.std.specs.Option.{option_map, option_or}
use Rattle.rv_tokens.specs.declared.token.Token.{Token}
use Rattle.rv_tokens.specs.declared.token.Token.TheVariants as t
use Rattle.rv_source.specs.declared.operand.Part.{Part}
use Rattle.rv_source.specs.declared.operand.Part.TheVariants.{Whole, High, Low}
use Rattle.rv_source.specs.declared.operand.Form.{Form}
use Rattle.rv_source.specs.declared.operand.Form.TheVariants as f
use Rattle.rv_source.specs.Expressions.{zero}
use Rattle.rv_source.specs.Support.Sums.{expression}

-- the tokens between two brackets around all others
abbrev pub enclosed : List Token → Option (List Token)
enclosed (t.Open ∷ ts) =
    let n = length ts - 1 in
    elim (drop n ts) as (λ _. Option (List Token)) [ t.Close ∷ [] ↦ Some (take n ts) | _ ↦ None ]
enclosed _ = None

-- a part of E, with a base or none
abbrev pub valued : Part → Option (List ℕ) → Option (List Token) → Option Form
valued part base ts = option_map (λ e. f.Value part e base) (option_and_then expression ts)

-- an operand without its base, if it has one: a string, %hi(E), %lo(E), E, or 0 if nothing stands before the
-- base
abbrev pub form_with : Option (List ℕ) → List Token → Option Form
form_with None (t.Text bytes ∷ []) = Some (f.Text bytes)
form_with None (t.High ∷ ts) = valued High None (enclosed ts)
form_with base (t.Low ∷ ts) = valued Low base (enclosed ts)
form_with (Some name) [] = Some (f.Value Whole zero (Some name))
form_with base ts = valued Whole base (Some ts)

-- (name)
abbrev pub base_of : List Token → Option (List ℕ)
base_of (t.Open ∷ t.Name name ∷ t.Close ∷ []) = Some name
base_of _ = None

-- an operand, which may end in (name), its base
unfoldable pub form_of : List Token → Option Form
form_of ts =
    let n = length ts - 3 in
    option_or (form_with None ts)
    (option_and_then (λ name. form_with (Some name) (take n ts)) (base_of (drop n ts)))
