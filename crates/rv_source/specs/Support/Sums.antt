-- The sum of terms that tokens spell, as the parser reads it.
-- Not to audit: a law says all that `expression` is (`OneValue`).
-- The language is this project's own: docs/ASSEMBLER.md.
use Rattle.std.specs.Prelude.{Bool, false, not, List, [], ◌∷◌, map, Option, Some, None}
use Rattle.std.specs.Option.{option_map}
use Rattle.std.specs.Bool.{beq}
use Rattle.rv_tokens.specs.declared.token.Token.{Token}
use Rattle.rv_source.specs.declared.expression.Term.{Term}
use Rattle.rv_source.specs.declared.expression.Atom.{Atom}
use Rattle.rv_source.specs.declared.terms.Piece.{Piece}
use Rattle.rv_source.specs.declared.terms.Piece.TheVariants as p
use Rattle.rv_source.specs.Expressions.{piece_of, term}

-- a term in front of others
abbrev pub with_term : Bool → Atom → Option (List Term) → Option (List Term)
with_term sign atom terms = option_map (λ ts. term sign atom ∷ ts) terms

-- the terms after the first: each has a sign before it, or two, which together are a minus if just one of
-- them is
unfoldable pub further : List Piece → Option (List Term)
further [] = Some []
further (p.Sign s ∷ p.Atom x ∷ ps) = with_term s x (further ps)
further (p.Sign s ∷ p.Sign r ∷ p.Atom x ∷ ps) = with_term (not (beq s r)) x (further ps)
further _ = None

-- a sum: a term with no sign or one before it, and further terms
unfoldable pub sum : List Piece → Option (List Term)
sum (p.Atom x ∷ ps) = with_term false x (further ps)
sum (p.Sign s ∷ p.Atom x ∷ ps) = with_term s x (further ps)
sum _ = None

-- E: the expression that the tokens as a whole spell
unfoldable pub expression : List Token → Option (List Term)
expression ts = sum (map piece_of ts)

-- a term whose sign follows another, if that is a minus, and the terms that further tokens spell
abbrev pub followed : Bool → Term → List Token → Option (List Term)
followed sign t ts = with_term (not (beq sign t.negative)) t.atom (further (map piece_of ts))
