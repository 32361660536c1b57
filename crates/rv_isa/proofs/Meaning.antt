-- The meaning of a word is the kind of the operation whose codes it has, with the fields at their places.
use Rattle.std.proofs.lemmas.Grind.{common_steps}
use Rattle.std.proofs.Common.{rules, ◌≡◌, ◌∙◌, ℕ, ◌/◌, ◌%◌, ◌^◌, ◌<◌, Bool, true, false, List, [], ◌∷◌, Option, Some, None, refl, sym, ap, subst, SFits, w32, arith}
use Rattle.std.specs.Prelude.{if◌then◌else◌}
use Rattle.std.proofs.lemmas.Bool.{ltb-true, lt-ltb}
use Rattle.std.proofs.lemmas.Bool.Decides.{nat_tests}
use Rattle.std.proofs.lemmas.Option.{none-some, same_Some}
use Rattle.rv_isa.specs.Fields.{kind_of, encoded, AreInRange, with_fields}
use Rattle.rv_isa.specs.Formats.{in_format}
use Rattle.rv_isa.specs.Support.Codes.{normal, read_in, codes_of, placed, immediate, read, CodesFit, HasCodes}
use Rattle.rv_isa.specs.Support.Kinds.{fields_of, operations, word, IsInRange}
use Rattle.rv_isa.specs.Support.Meaning.{has_codes, first_in, kind_with, means}
use Rattle.rv_isa.specs.Table.{row, Encoding, R}
use Rattle.rv_isa.specs.Word.{Means, OneMeaning}
use Rattle.rv_isa.specs.declared.fields.Fields.{Fields}
use Rattle.rv_isa.specs.declared.format.Codes.{Codes}
use Rattle.rv_isa.specs.declared.kind.Kind.{Kind}
use Rattle.rv_isa.specs.declared.op.Operation.{Operation}
use Rattle.rv_isa.specs.declared.op.Operation.TheVariants as o
use Rattle.rv_isa.proofs.Codes.{codes_fit}
use Rattle.rv_isa.proofs.Normal.{normal_kind, normal_range, normal_fields}
use Rattle.rv_isa.proofs.Encodings.{same_word, kind_in_range, word_means}

-- ---- the operation whose codes a word has

has : (w : ℕ) (e : Encoding) → has_codes w e ≡ true → HasCodes w (codes_of e)
has w (R _ _ _ _) h = grind (arith, nat_tests)
has w e h = grind (arith, nat_tests)

by_row : (w : ℕ) (y : Operation) (others : Option Operation) (x : Operation) (b : Bool) → has_codes w (row y).1 ≡ b
    → (others ≡ Some x → HasCodes w (codes_of (row x).1)) → (if b then Some y else others) ≡ Some x
    → HasCodes w (codes_of (row x).1)
by_row w y others x true b h e = subst (λ y. HasCodes w (codes_of (row y).1)) (same_Some y x e) (has w (row y).1 b)
by_row w y others x false b h e = h e

pub first_has : (w : ℕ) (xs : List Operation) (x : Operation) → first_in w xs ≡ Some x → HasCodes w (codes_of (row x).1)
first_has w [] x e = absurd (none-some x e)
first_has w (y ∷ ys) x e = by_row w y (first_in w ys) x (has_codes w (row y).1) refl (first_has w ys x) e

pub found : (w : ℕ) (x : Operation) → HasCodes w (codes_of (row x).1) → first_in w operations ≡ Some x
unfolding operations
found w o.Lui h = grind (arith, nat_tests)
found w x h = grind (arith, nat_tests)

-- the word of fields has their codes
placed_codes : (e : Encoding) (f : Fields) (w : ℕ) → CodesFit (codes_of e) → f.rd < 32 → f.rs1 < 32 → f.rs2 < 32
    → placed (codes_of e) f ≡ w → HasCodes w (codes_of e)
placed_codes (R _ _ _ _) f w c a b d e = grind arith
placed_codes x f w c a b d e = grind arith

word_codes : (f : Fields) (w : ℕ) → AreInRange f → encoded f ≡ w → HasCodes w (codes_of (row f.operation).1)
word_codes f w r e = grind (arith, nat_tests, common_steps, placed_codes, codes_fit, same_word)

-- ---- the fields of a word

-- the fields at their places in a word that has the codes give the word, and are in range
read_word : (e : Encoding) (x : Operation) (w : ℕ) → w < 2 ^ 32 → HasCodes w (codes_of e)
    → placed (codes_of e) (with_fields x (w / 2 ^ 7 % 2 ^ 5) (w / 2 ^ 15 % 2 ^ 5) (w / 2 ^ 20 % 2 ^ 5) (immediate (codes_of e).format w)) ≡ w
read_word (R _ _ _ _) x w b h = grind arith
read_word e x w b h = grind arith

read_immediate : (e : Encoding) (x : Operation) (w : ℕ) → w < 2 ^ 32
    → (in_format e (with_fields x (w / 2 ^ 7 % 2 ^ 5) (w / 2 ^ 15 % 2 ^ 5) (w / 2 ^ 20 % 2 ^ 5) (immediate (codes_of e).format w))).HasImmediate
read_immediate (R _ _ _ _) x w b = grind arith
read_immediate e x w b = grind arith

read_fits : (x : Operation) (w : ℕ) → w < 2 ^ 32 → AreInRange (read x w)
read_fits x w b = (omega arith, omega arith, omega arith, read_immediate (row x).1 x w b)

read_encoded : (x : Operation) (w : ℕ) → w < 2 ^ 32 → HasCodes w (codes_of (row x).1) → encoded (read x w) ≡ w
read_encoded x w b h = sym (same_word (row x).1 (read x w)) ∙ read_word (row x).1 x w b h

-- fields in range with one word make one kind
same_kind : (e : Encoding) (f : Fields) (x : Operation) (w : ℕ) → f.rd < 32 → f.rs1 < 32 → f.rs2 < 32 → (in_format e f).HasImmediate
    → CodesFit (codes_of e) → placed (codes_of e) f ≡ w
    → (in_format e (with_fields x (w / 2 ^ 7 % 2 ^ 5) (w / 2 ^ 15 % 2 ^ 5) (w / 2 ^ 20 % 2 ^ 5) (immediate (codes_of e).format w))).kind
    ≡ (in_format e f).kind
same_kind (R _ _ _ _) f x w a b c h d e = grind arith
same_kind y f x w a b c h d e = grind arith

-- ---- what a word means

placed_below : (e : Encoding) (f : Fields) → CodesFit (codes_of e) → f.rd < 32 → f.rs1 < 32 → f.rs2 < 32
    → placed (codes_of e) f < 2 ^ 32
placed_below (R _ _ _ _) f c a b d = grind arith
placed_below e f c a b d = grind arith

word_below : (f : Fields) (w : ℕ) → AreInRange f → encoded f ≡ w → w < 2 ^ 32
word_below f w r e = grind (arith, nat_tests, common_steps, same_word, placed_below, codes_fit)

pub some_meaning : (x : Operation) (w : ℕ) → w < 2 ^ 32 → HasCodes w (codes_of (row x).1)
    → means w ≡ Some (kind_of (read x w))
unfolding means
some_meaning x w b h = rw (lt-ltb _ _ b, found w x h) refl

fields_meaning : (f : Fields) (w : ℕ) → AreInRange f → encoded f ≡ w → means w ≡ Some (kind_of f)
unfolding kind_of
fields_meaning f w r e =
    let x = f.operation in
    some_meaning x w (word_below f w r e) (word_codes f w r e)
    ∙ ap Some (same_kind (row x).1 f x w r.0 r.1 r.2 r.3 (codes_fit x) (same_word (row x).1 f ∙ e))

by_operation : (w : ℕ) (x : Option Operation) → first_in w operations ≡ x → w < 2 ^ 32 → Means w (kind_with w x)
unfolding Means
by_operation w (Some x) e b = (read x w, read_fits x w b, refl, read_encoded x w b (first_has w operations x e))
by_operation w None e b = λ f r q. none-some f.operation (sym e ∙ found w f.operation (word_codes f w r q))

pub means_inverts : (w : ℕ) → Means w (means w)
unfolding Means means
means_inverts w = search (rules, by_operation, ltb-true, word_below)

none_is : (w : ℕ) (k : Option Kind) → Means w k → Means w None → k ≡ None
unfolding Means
none_is w (Some k) m n = absurd (n m.0 m.1 m.3)
none_is w None m n = refl

the_meaning : (w : ℕ) (k : Option Kind) → Means w k → means w ≡ k
unfolding Means
the_meaning w (Some k) m = fields_meaning m.0 w m.1 m.3 ∙ ap Some m.2
the_meaning w None m = none_is w (means w) (means_inverts w) m

pub no_meaning : (w : ℕ) → ((x : Operation) → HasCodes w (codes_of (row x).1) → ⊥) → means w ≡ None
unfolding Means
no_meaning w h = the_meaning w None (λ f r e. h f.operation (word_codes f w r e))

pub is_meant : (w : ℕ) (k : Option Kind) → means w ≡ k → Means w k
is_meant w k e = subst (Means w) e (means_inverts w)

pub one_meaning : OneMeaning
one_meaning w a b p q = sym (the_meaning w a p) ∙ the_meaning w b q

pub words_differ : (a b : Kind) → IsInRange a → IsInRange b → word a ≡ word b → a ≡ b
words_differ a b p q e = same_Some a b (one_meaning (word b) (Some a) (Some b) (word_means (word b) a p (sym e))
    (word_means (word b) b q refl))

-- ---- the fields that the code reads

read_small : (e : Encoding) (w : ℕ) → w < 2 ^ 32 → SFits w32 (immediate (codes_of e).format w)
read_small (R _ _ _ _) w b = record { sfits = grind arith }
read_small e w b = record { sfits = grind arith }

same_read : (x : Operation) (w : ℕ) (c : Codes) (n : Fields) → c ≡ codes_of (row x).1
    → n ≡ normal c.format (read_in c.format x w) → n ≡ normal (codes_of (row x).1).format (read x w)
same_read x w c n e is = is ∙ ap (λ c. normal c.format (read_in c.format x w)) e

pub read_kind : (x : Operation) (w : ℕ) (c : Codes) (n : Fields) → c ≡ codes_of (row x).1
    → n ≡ normal c.format (read_in c.format x w) → kind_of n ≡ kind_of (read x w)
read_kind x w c n e is = normal_kind (read x w) n _ refl (same_read x w c n e is)

pub read_range : (x : Operation) (w : ℕ) (c : Codes) (n : Fields) → w < 2 ^ 32 → c ≡ codes_of (row x).1
    → n ≡ normal c.format (read_in c.format x w) → IsInRange (kind_of n)
read_range x w c n b e is =
    normal_range (read x w) n _ refl (same_read x w c n e is) (kind_in_range (read x w) (read_fits x w b))

pub read_laid : (x : Operation) (w : ℕ) (c : Codes) (n : Fields) → w < 2 ^ 32 → c ≡ codes_of (row x).1
    → n ≡ normal c.format (read_in c.format x w) → fields_of (kind_of n) ≡ n
read_laid x w c n b e is = grind (arith, nat_tests, common_steps, normal_fields, read_small, same_read, kind_in_range, read_fits)
