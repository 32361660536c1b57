-- Operands as a grammar: the tokens of one have one form.
use Rattle.std.proofs.Common.{◌≡◌, ◌∙◌, ℕ, ◌-◌, List, [], ◌∷◌, ◌++◌, length, take, drop, refl, ap, subst, append_assoc, length-append, rules}
use Rattle.std.specs.Prelude.{◌↔◌, Option, Some, None, option_and_then, not}
use Rattle.std.specs.Bool.{beq}
use Rattle.std.specs.Option.{option_map}
use Rattle.std.proofs.lemmas.List.{take_at, drop_at, take-append-drop, map-append}
use Rattle.rv_tokens.specs.declared.token.Token.{Token}
use Rattle.rv_tokens.specs.declared.token.Token.TheVariants as t
use Rattle.rv_source.specs.declared.expression.Term.{Term}
use Rattle.rv_source.specs.declared.terms.Piece.{Piece}
use Rattle.rv_source.specs.declared.terms.Piece.TheVariants as p
use Rattle.rv_source.specs.declared.operand.Part.{Part}
use Rattle.rv_source.specs.declared.operand.Part.TheVariants.{Whole, High, Low}
use Rattle.rv_source.specs.declared.operand.Form.{Form}
use Rattle.rv_source.specs.declared.operand.Form.TheVariants as f
use Rattle.rv_source.specs.Expressions.{piece_of, zero}
use Rattle.rv_source.specs.Operands.{IsOperand, Quoted, Sum, HighPart, LowPart, Base, SumAndBase, LowPartAndBase, Spells, bracketed}
use Rattle.rv_source.specs.Support.Sums.{further, sum, expression, with_term}
use Rattle.rv_source.specs.Support.Forms.{base_of, enclosed, form_of, form_with, valued}
use Rattle.rv_source.proofs.OneValue.{has_one_value}

-- ---- what is no sum

further_other : (ps qs : List Piece) → further (ps ++ p.Other ∷ qs) ≡ None
unfolding further
further_other (p.Sign s ∷ p.Atom x ∷ ps) qs = ap (with_term s x) (further_other ps qs)
further_other (p.Sign s ∷ p.Sign r ∷ p.Atom x ∷ ps) qs = ap (with_term (not (beq s r)) x) (further_other ps qs)
further_other ps qs = refl

sum_other : (ps qs : List Piece) → sum (ps ++ p.Other ∷ qs) ≡ None
unfolding sum
sum_other (p.Atom x ∷ ps) qs = ap (with_term _ x) (further_other ps qs)
sum_other (p.Sign s ∷ p.Atom x ∷ ps) qs = ap (with_term s x) (further_other ps qs)
sum_other ps qs = refl

-- tokens with a bracket among them
no_sum : (x : Token) (us vs : List Token) → piece_of x ≡ p.Other → expression (us ++ x ∷ vs) ≡ None
unfolding expression
no_sum x us vs is = search (rules, map-append, sum_other)

-- ---- tokens between brackets

-- what stands before a closing bracket
abbrev closing : List Token → List Token → Option (List Token)
closing inner ys = elim ys as (λ _. Option (List Token)) [ t.Close ∷ [] ↦ Some inner | _ ↦ None ]

enclosed_is : (ts : List Token) → enclosed (t.Open ∷ ts ++ t.Close ∷ []) ≡ Some ts
enclosed_is ts = search (rules, length-append, drop_at, take_at)

closed : (n : ℕ) (xs ys ws : List Token) → closing (take n xs) ys ≡ Some ws → take n xs ++ ys ≡ xs
    → t.Open ∷ xs ≡ t.Open ∷ ws ++ t.Close ∷ []
closed n xs (t.Close ∷ []) ws e all = search rules
closed n xs ys ws e all = absurd cc

enclosed_of : (ts ws : List Token) → enclosed ts ≡ Some ws → ts ≡ t.Open ∷ ws ++ t.Close ∷ []
enclosed_of (t.Open ∷ xs) ws e = let n = length xs - 1 in closed n xs (drop n xs) ws e (take-append-drop n xs)
enclosed_of ts ws e = absurd cc

-- ---- an operand of the grammar is what `form_with` reads, with its base

sum_with : (ts : List Token) (e : List Term) → expression ts ≡ Some e → form_with None ts ≡ Some (f.Value Whole e None)
unfolding expression sum
sum_with ts e h = search rules

sum_at : (name : List ℕ) (ts : List Token) (e : List Term) → expression ts ≡ Some e
    → form_with (Some name) ts ≡ Some (f.Value Whole e (Some name))
unfolding expression sum
sum_at name ts e h = search rules

-- an expression with (name) after it is none, and no operand without a base
none_with : (name : List ℕ) (ts : List Token) (e : List Term) → expression ts ≡ Some e
    → form_with None (ts ++ bracketed name) ≡ None
unfolding expression sum
none_with name (x ∷ ts) e h = search (rules, no_sum t.Open (x ∷ ts))
none_with name [] e h = absurd cc

part_with : (part : Part) (base : Option (List ℕ)) (ts : List Token) (e : List Term) → expression ts ≡ Some e
    → valued part base (enclosed (t.Open ∷ ts ++ t.Close ∷ [])) ≡ Some (f.Value part e base)
part_with part base ts e h = search (rules, length-append, drop_at, take_at)

none_after : (name : List ℕ) (ts : List Token) → form_with None (t.Low ∷ t.Open ∷ ts ++ t.Close ∷ bracketed name) ≡ None
none_after name ts = search (
  rules,
  no_sum t.Close ts (t.Open ∷ t.Name name ∷ []) refl,
  enclosed_is (ts ++ t.Close ∷ t.Open ∷ t.Name name ∷ []),
  append_assoc,
)

-- the form of tokens with a base, which are no operand without it
with_base : (ts : List Token) (name : List ℕ) (form : Form) → form_with None (ts ++ bracketed name) ≡ None
    → form_with (Some name) ts ≡ Some form → form_of (ts ++ bracketed name) ≡ Some form
unfolding form_of
with_base ts name form none is = search (rules, length-append, drop_at, take_at)

without_base : (ts : List Token) (form : Form) → form_with None ts ≡ Some form → form_of ts ≡ Some form
unfolding form_of
without_base ts form is = search rules

none_alone : (name : List ℕ) → form_with None (bracketed name) ≡ None
unfolding expression sum
none_alone name = refl

reads : (ts : List Token) (form : Form) → IsOperand ts form → form_of ts ≡ Some form
reads _ _ (Quoted bytes) = without_base (t.Text bytes ∷ []) _ refl
reads _ _ (Sum ts e is) = without_base ts _ (sum_with ts e ((has_one_value ts e).0 is))
reads _ _ (HighPart ts e is) = without_base _ _ (part_with High None ts e ((has_one_value ts e).0 is))
reads _ _ (LowPart ts e is) = without_base _ _ (part_with Low None ts e ((has_one_value ts e).0 is))
reads _ _ (Base name) = with_base [] name _ (none_alone name) refl
reads _ _ (SumAndBase ts e name is) =
    let value = (has_one_value ts e).0 is in with_base ts name _ (none_with name ts e value) (sum_at name ts e value)
reads _ _ (LowPartAndBase ts e name is) =
    let front = t.Low ∷ t.Open ∷ ts ++ t.Close ∷ [] in
    let whole : front ++ bracketed name ≡ t.Low ∷ t.Open ∷ ts ++ t.Close ∷ bracketed name =
    ap (λ (us : List Token). t.Low ∷ t.Open ∷ us) (append_assoc ts (t.Close ∷ []) (bracketed name)) in
    subst (λ us. form_of us ≡ Some (f.Value Low e (Some name))) whole
    (with_base front name _ (ap (form_with None) whole ∙ none_after name ts)
    (part_with Low (Some name) ts e ((has_one_value ts e).0 is)))

-- ---- what `form_of` reads is an operand of the grammar

value_of : (part : Part) (base : Option (List ℕ)) (o : Option (List Token)) (form : Form) (P : Form → Type 0)
    → valued part base o ≡ Some form
    → ((ts : List Token) (e : List Term) → o ≡ Some ts → Spells ts e → P (f.Value part e base)) → P form
value_of part base None form P is each = absurd cc
value_of part base (Some ts) form P is each =
    by (expression ts) is (λ e value. each ts e refl ((has_one_value ts e).1 value)) where
      by : (o : Option (List Term)) → option_map (λ (e : List Term). f.Value part e base) o ≡ Some form
          → ((e : List Term) → o ≡ Some e → P (f.Value part e base)) → P form
      by o is each = search rules

no_base_is : (ts : List Token) (form : Form) → form_with None ts ≡ Some form → IsOperand ts form
unfolding expression sum
no_base_is [] form is = absurd cc
no_base_is (t.Text bytes ∷ []) form is =
    let same : f.Text bytes ≡ form = cc in subst (IsOperand (t.Text bytes ∷ [])) same (Quoted bytes)
no_base_is (t.Text bytes ∷ x ∷ ts) form is = absurd cc
no_base_is (t.High ∷ ts) form is = value_of High None (enclosed ts) form (IsOperand (t.High ∷ ts)) is
    (λ inner e o spells. rw (enclosed_of ts inner o) (HighPart inner e spells))
no_base_is (t.Low ∷ ts) form is = value_of Low None (enclosed ts) form (IsOperand (t.Low ∷ ts)) is
    (λ inner e o spells. rw (enclosed_of ts inner o) (LowPart inner e spells))
no_base_is (x ∷ ts) form is = value_of Whole None (Some (x ∷ ts)) form (IsOperand (x ∷ ts)) is
    (λ us e o spells. let same : us ≡ x ∷ ts = cc in rw (← same) (Sum us e spells))

base_is : (name : List ℕ) (ts : List Token) (form : Form) → form_with (Some name) ts ≡ Some form
    → IsOperand (ts ++ bracketed name) form
base_is name [] form is =
    let same : f.Value Whole zero (Some name) ≡ form = cc in subst (IsOperand (bracketed name)) same (Base name)
base_is name (t.Low ∷ ts) form is =
    value_of Low (Some name) (enclosed ts) form (IsOperand ((t.Low ∷ ts) ++ bracketed name)) is (λ inner e o spells.
    rw (enclosed_of ts inner o, append_assoc) (LowPartAndBase inner e name spells))
base_is name (x ∷ ts) form is =
    value_of Whole (Some name) (Some (x ∷ ts)) form (IsOperand ((x ∷ ts) ++ bracketed name)) is (λ us e o spells.
    let same : us ≡ x ∷ ts = cc in
    subst (λ vs. IsOperand (vs ++ bracketed name) (f.Value Whole e (Some name))) same (SumAndBase us e name spells))

bracketed_is : (ts : List Token) (name : List ℕ) → base_of ts ≡ Some name → ts ≡ bracketed name
bracketed_is ts name is = search rules

based : (ts front last : List Token) (form : Form) (o : Option (List ℕ)) → front ++ last ≡ ts → base_of last ≡ o
    → option_and_then (λ name. form_with (Some name) front) o ≡ Some form → IsOperand ts form
based ts front last form o whole b is = search (rules, bracketed_is, base_is)

is_operand : (ts : List Token) (form : Form) → form_of ts ≡ Some form → IsOperand ts form
unfolding form_of
is_operand ts form is = let n = length ts - 3 in
    search (rules, no_base_is, based ts (take n ts) (drop n ts), take-append-drop)

pub has_one_form : (ts : List Token) (form : Form) → IsOperand ts form ↔ (form_of ts ≡ Some form)
has_one_form ts form = (reads ts form, is_operand ts form)
