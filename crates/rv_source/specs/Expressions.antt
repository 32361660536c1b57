-- The expressions that tokens spell: atoms joined by signs.
-- To audit: public contracts cite this.
-- The language is this project's own: docs/ASSEMBLER.md.
use Rattle.std.specs.Prelude.{Bool, true, false, not, List, [], ◌∷◌, ◌++◌, if◌then◌else◌, codes}
use Rattle.std.specs.Bool.{beq}
use Rattle.std.specs.Str.{bytes_eq}
use Rattle.rv_tokens.specs.declared.token.Token.{Token}
use Rattle.rv_tokens.specs.declared.token.Token.TheVariants as t
use Rattle.rv_source.specs.declared.expression.Term.{Term}
use Rattle.rv_source.specs.declared.expression.Atom.{Atom}
use Rattle.rv_source.specs.declared.expression.Atom.TheVariants as a
use Rattle.rv_source.specs.declared.terms.Piece.{Piece}
use Rattle.rv_source.specs.declared.terms.Piece.TheVariants as p

-- what a token is in an expression: a sign, which may be a minus, an atom, or neither
abbrev pub piece_of : Token → Piece
piece_of t.Plus = p.Sign false
piece_of t.Minus = p.Sign true
piece_of (t.Name name) = p.Atom (if not (bytes_eq name (codes ".")) then a.Symbol name else a.Here)
piece_of (t.Digits n) = p.Atom (a.Number n)
piece_of (t.Number n) = p.Atom (a.Number n)
piece_of (t.Character b) = p.Atom (a.Character b)
piece_of (t.Local n direction) = p.Atom (a.Local n direction)
piece_of _ = p.Other

abbrev pub term : Bool → Atom → Term
term sign atom = record { negative = sign; atom = atom }

-- 0 alone
abbrev pub zero : List Term
zero = term false (a.Number 0) ∷ []

-- A sum is an atom with one sign or none, or a sum, one sign or two, and an atom. Two signs are together a
-- minus if just one of them is. `expression` gives E, the sum that tokens as a whole spell, and None where they
-- spell none: the law `one_value`.
pub data IsSum : List Piece → List Term → Type 0 where
  Alone : (x : Atom) → IsSum (p.Atom x ∷ []) (term false x ∷ [])
  Signed : (s : Bool) (x : Atom) → IsSum (p.Sign s ∷ p.Atom x ∷ []) (term s x ∷ [])
  OneSign : (ps : List Piece) (ts : List Term) (s : Bool) (x : Atom) → IsSum ps ts
      → IsSum (ps ++ p.Sign s ∷ p.Atom x ∷ []) (ts ++ term s x ∷ [])
  TwoSigns : (ps : List Piece) (ts : List Term) (s r : Bool) (x : Atom) → IsSum ps ts
      → IsSum (ps ++ p.Sign s ∷ p.Sign r ∷ p.Atom x ∷ []) (ts ++ term (not (beq s r)) x ∷ [])
