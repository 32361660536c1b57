-- The operation with a mnemonic, found among those with its first letter.
use Rattle.std.proofs.Common.{rules, ◌≡◌, ◌∙◌, ℕ, ◌<◌, ◌≤◌, false, List, [], ◌∷◌, length, get_or, Some, refl, ap, sym, arith}
use Rattle.std.specs.Prelude.{None, filter, ◌↔◌}
use Rattle.std.proofs.lemmas.Option.{same_Some}
use Rattle.std.proofs.lemmas.Slice.Eq.{bytes_eq-Decides}
use Rattle.std.specs.Str.{bytes_eq}
use Rattle.rv_isa.specs.declared.op.Operation.{Operation}
use Rattle.rv_isa.specs.declared.op.Operation.TheVariants as o
use Rattle.rv_isa.specs.Support.Letters.{begins, beginning_with}
use Rattle.rv_isa.specs.Support.Kinds.{operations}
use Rattle.rv_isa.specs.Support.Mnemonics.{first_named, named}
use Rattle.rv_isa.specs.Table.{mnemonic}

-- those of some operations whose mnemonics begin with a letter
abbrev those_with : ℕ → List Operation → List Operation
those_with letter ops = filter (λ op. begins letter (mnemonic op)) ops

-- a text that begins with another letter
other : (letter : ℕ) (rest text : List ℕ) → begins letter text ≡ false → bytes_eq text (letter ∷ rest) ≡ false
other letter rest text e = search rules

among : (letter : ℕ) (rest : List ℕ) (ops : List Operation) →
    first_named (letter ∷ rest) ops ≡ first_named (letter ∷ rest) (those_with letter ops)
among letter rest [] = refl
among letter rest (op ∷ ops) = search (rules, other, among letter rest ops)

pub named_among : (text : List ℕ) → 1 ≤ length text → named text ≡ first_named text (beginning_with (get_or text 0 0))
unfolding beginning_with
named_among [] h = absurd (omega arith)
named_among (letter ∷ rest) h = among letter rest operations

pub none_named : (text : List ℕ) → length text < 1 → named text ≡ None
unfolding operations mnemonic
none_named [] h = refl
none_named (letter ∷ rest) h = absurd (omega arith)

-- ---- the law of mnemonics

-- an operation is the one with its mnemonic, so it is one of the list
pub named_itself : (x : Operation) → named (mnemonic x) ≡ Some x
unfolding operations mnemonic
named_itself o.Lui = refl
named_itself x = refl

first_has : (text : List ℕ) (ops : List Operation) (x : Operation) → first_named text ops ≡ Some x → mnemonic x ≡ text
first_has text [] x e = absurd cc
first_has text (y ∷ ys) x e = search (rules, bytes_eq-Decides, same_Some, first_has text ys x)

pub one_mnemonic : (text : List ℕ) (x : Operation) → (named text ≡ Some x) ↔ (mnemonic x ≡ text)
one_mnemonic text x = (first_has text operations x, λ e. ap named (sym e) ∙ named_itself x)
