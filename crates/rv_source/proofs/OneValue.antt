-- Expressions as a grammar: the tokens of one have one reading.
use Rattle.std.proofs.Common.{◌≡◌, Bool, false, not, List, [], ◌∷◌, ◌++◌, refl, append_assoc, rules}
use Rattle.std.specs.Prelude.{◌↔◌, map, Option, Some}
use Rattle.std.specs.Bool.{beq}
use Rattle.std.proofs.lemmas.List.{append-nil}
use Rattle.rv_tokens.specs.declared.token.Token.{Token}
use Rattle.rv_source.specs.declared.expression.Term.{Term}
use Rattle.rv_source.specs.declared.expression.Atom.{Atom}
use Rattle.rv_source.specs.declared.terms.Piece.{Piece}
use Rattle.rv_source.specs.declared.terms.Piece.TheVariants as p
use Rattle.rv_source.specs.Expressions.{IsSum, Alone, Signed, OneSign, TwoSigns, piece_of, term}
use Rattle.rv_source.specs.Support.Sums.{further, sum, expression, with_term}

-- ---- a sum of the grammar is what `sum` reads

front_more : (s : Bool) (x : Atom) (o r : Option (List Term)) (ts us : List Term) → with_term s x o ≡ Some ts
    → ((vs : List Term) → o ≡ Some vs → r ≡ Some (vs ++ us)) → with_term s x r ≡ Some (ts ++ us)
front_more s x o r ts us e h = search rules

further_more : (ps qs : List Piece) (ts us : List Term) → further ps ≡ Some ts → further qs ≡ Some us →
    further (ps ++ qs) ≡ Some (ts ++ us)
unfolding further
further_more [] qs ts us e f = let is : [] ≡ ts = cc in rw (← is) f
further_more (p.Sign s ∷ p.Atom x ∷ ps) qs ts us e f = search (rules, front_more, further_more ps qs)
further_more (p.Sign s ∷ p.Sign r ∷ p.Atom x ∷ ps) qs ts us e f = search (rules, front_more, further_more ps qs)
further_more ps qs ts us e f = absurd cc

sum_more : (ps qs : List Piece) (ts us : List Term) → sum ps ≡ Some ts → further qs ≡ Some us →
    sum (ps ++ qs) ≡ Some (ts ++ us)
unfolding sum
sum_more ps qs ts us e f = search (rules, front_more, further_more)

reads : (ps : List Piece) (ts : List Term) → IsSum ps ts → sum ps ≡ Some ts
unfolding sum further
reads _ _ (Alone x) = refl
reads _ _ (Signed s x) = refl
reads _ _ (OneSign ps ts s x h) = sum_more ps (p.Sign s ∷ p.Atom x ∷ []) ts (term s x ∷ []) (reads ps ts h) refl
reads _ _ (TwoSigns ps ts s r x h) = search (rules, sum_more, reads ps ts h)

-- ---- what `sum` reads is a sum of the grammar

front_of : (s : Bool) (x : Atom) (o : Option (List Term)) (us : List Term) (P : List Term → Type 0)
    → with_term s x o ≡ Some us → ((vs : List Term) → o ≡ Some vs → P (term s x ∷ vs)) → P us
front_of s x o us P e h = search rules

grows : (ps qs : List Piece) (ts us : List Term) → IsSum ps ts → further qs ≡ Some us → IsSum (ps ++ qs) (ts ++ us)
unfolding further
grows ps [] ts us h e = let is : [] ≡ us = cc in rw (← is, append-nil, append-nil) h
grows ps (p.Sign s ∷ p.Atom x ∷ qs) ts us h e =
    front_of s x (further qs) us (λ vs. IsSum (ps ++ p.Sign s ∷ p.Atom x ∷ qs) (ts ++ vs)) e (λ vs i.
    simp append_assoc at (grows (ps ++ p.Sign s ∷ p.Atom x ∷ []) qs (ts ++ term s x ∷ []) vs (OneSign ps ts s x h) i))
grows ps (p.Sign s ∷ p.Sign r ∷ p.Atom x ∷ qs) ts us h e = front_of (not (beq s r)) x (further qs) us
    (λ vs. IsSum (ps ++ p.Sign s ∷ p.Sign r ∷ p.Atom x ∷ qs) (ts ++ vs)) e (λ vs i.
    simp append_assoc at (grows (ps ++ p.Sign s ∷ p.Sign r ∷ p.Atom x ∷ []) qs
    (ts ++ term (not (beq s r)) x ∷ []) vs (TwoSigns ps ts s r x h) i))
grows ps qs ts us h e = absurd (cc)

is_sum : (ps : List Piece) (ts : List Term) → sum ps ≡ Some ts → IsSum ps ts
unfolding sum
is_sum (p.Atom x ∷ ps) ts e = front_of false x (further ps) ts (λ us. IsSum (p.Atom x ∷ ps) us) e
    (λ vs i. grows (p.Atom x ∷ []) ps (term false x ∷ []) vs (Alone x) i)
is_sum (p.Sign s ∷ p.Atom x ∷ ps) ts e = front_of s x (further ps) ts (λ us. IsSum (p.Sign s ∷ p.Atom x ∷ ps) us) e
    (λ vs i. grows (p.Sign s ∷ p.Atom x ∷ []) ps (term s x ∷ []) vs (Signed s x) i)
is_sum ps ts e = absurd (cc)

pub has_one_value : (ts : List Token) (terms : List Term) → IsSum (map piece_of ts) terms ↔ (expression ts ≡ Some terms)
unfolding expression
has_one_value ts terms = (reads (map piece_of ts) terms, is_sum (map piece_of ts) terms)
