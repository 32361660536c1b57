-- The operands that tokens spell.
-- To audit: public contracts cite this.
-- The language is this project's own: docs/ASSEMBLER.md.
use Rattle.std.specs.Prelude.{ℕ, ◌+◌, Bool, true, false, List, [], ◌∷◌, ◌++◌, length, map, slice_get, is_none, Option, Some, None, option_and_then, if◌then◌else◌}
use Rattle.std.specs.List.{flat_map, slice_split}
use Rattle.std.specs.Option.{option_map}
use Rattle.rv_tokens.specs.declared.token.Token.{Token}
use Rattle.rv_tokens.specs.declared.token.Token.TheVariants as t
use Rattle.rv_source.specs.declared.expression.Term.{Term}
use Rattle.rv_source.specs.declared.operand.Part.TheVariants.{Whole, High, Low}
use Rattle.rv_source.specs.declared.operand.Form.{Form}
use Rattle.rv_source.specs.declared.operand.Form.TheVariants as f
use Rattle.rv_source.specs.declared.operand.Operand.{Operand}
use Rattle.rv_source.specs.Expressions.{IsSum, piece_of, zero}
use Rattle.rv_source.specs.Support.Forms.{form_of}

abbrev pub is_comma : Token → Bool
is_comma t.Comma = true
is_comma _ = false

-- ---- the forms of operands

-- tokens spell the sum of these terms
abbrev pub Spells : List Token → List Term → Type 0
Spells ts e = IsSum (map piece_of ts) e

-- (name)
abbrev pub bracketed : List ℕ → List Token
bracketed name = t.Open ∷ t.Name name ∷ t.Close ∷ []

-- An operand is a string, E, %hi(E) or %lo(E); or it is (name), E(name) or %lo(E)(name), with a name as its base.
-- `form_of` gives the form of the tokens of an operand, and None where they are none: the law `one_form`.
pub data IsOperand : List Token → Form → Type 0 where
  Quoted : (bytes : List ℕ) → IsOperand (t.Text bytes ∷ []) (f.Text bytes)
  Sum : (ts : List Token) (e : List Term) → Spells ts e → IsOperand ts (f.Value Whole e None)
  HighPart : (ts : List Token) (e : List Term) → Spells ts e
      → IsOperand (t.High ∷ t.Open ∷ ts ++ t.Close ∷ []) (f.Value High e None)
  LowPart : (ts : List Token) (e : List Term) → Spells ts e
      → IsOperand (t.Low ∷ t.Open ∷ ts ++ t.Close ∷ []) (f.Value Low e None)
  Base : (name : List ℕ) → IsOperand (bracketed name) (f.Value Whole zero (Some name))
  SumAndBase : (ts : List Token) (e : List Term) (name : List ℕ) → Spells ts e
      → IsOperand (ts ++ bracketed name) (f.Value Whole e (Some name))
  LowPartAndBase : (ts : List Token) (e : List Term) (name : List ℕ) → Spells ts e
      → IsOperand (t.Low ∷ t.Open ∷ ts ++ t.Close ∷ bracketed name) (f.Value Low e (Some name))

-- ---- the operands of a mnemonic or directive

-- the operands that pieces spell, from token n on, with a comma after each but the last
unfoldable pub operands : ℕ → List (List Token) → Option (List Operand)
operands n [] = Some []
operands n (piece ∷ pieces) =
    option_and_then (λ x. option_map (λ xs. x ∷ xs) (operands (n + length piece + 1) pieces))
    (option_map (λ form. record { first = n; count = length piece; form = form }) (form_of piece))

-- the operands of a mnemonic or directive by the tokens following it, the first of which is token n
unfoldable pub operands_of : ℕ → List Token → Option (List Operand)
operands_of n ts = if is_none (slice_get ts 0) then Some [] else operands n (slice_split is_comma ts)

-- ---- what operands have

-- the terms of an operand's value, or none of a string
abbrev pub terms_of : Operand → List Term
terms_of x = elim x.form as (λ _. List Term) [ f.Value part e base ↦ e | f.Text bytes ↦ [] ]

-- the bytes of a string, or none of another operand
abbrev pub text_of : Operand → List ℕ
text_of x = elim x.form as (λ _. List ℕ) [ f.Value part e base ↦ [] | f.Text bytes ↦ bytes ]

-- the bytes of strings, each followed by a byte 0 if they are terminated
unfoldable pub strings : Bool → List Operand → List ℕ
strings terminated xs = flat_map (λ x. text_of x ++ (if terminated then 0 ∷ [] else [])) xs
