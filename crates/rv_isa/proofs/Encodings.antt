-- The word and the ranges of a kind are those of its fields.
use Rattle.std.proofs.Common.{◌≡◌, ℕ, ◌+◌, ◌*◌, ◌^◌, ◌<◌, ◌∙◌, List, Option, Some, None, sym, ap, subst, ℤ, pos, negsuc, arith, rules}
use Rattle.std.specs.Prelude.{◌↔◌, fold}
use Rattle.rv_isa.proofs.OneLayout.{kept, fields_in_range}
use Rattle.rv_isa.specs.Fields.{kind_of, encoded, AreInRange, to_word}
use Rattle.rv_isa.specs.Formats.{in_format}
use Rattle.rv_isa.specs.Support.Kinds.{fields_of, word, IsInRange, IsMeaning}
use Rattle.rv_isa.specs.Support.Codes.{codes_of, placed}
use Rattle.rv_isa.specs.Table.{row, Encoding, R}
use Rattle.rv_isa.specs.Word.{Means}
use Rattle.rv_isa.specs.declared.fields.Fields.{Fields}
use Rattle.rv_isa.specs.declared.format.Codes.{Codes}
use Rattle.rv_isa.specs.declared.kind.Kind.{Kind}
use Rattle.rv_isa.specs.declared.op.Operation.{Operation}
use Rattle.rv_isa.specs.declared.op.Operation.TheVariants as o

-- parts side by side, the first of them highest
abbrev packed : List (ℕ × ℕ) → ℕ
packed all = fold (λ above part. above * 2 ^ part.1 + part.0) 0 all

-- the code puts codes and fields side by side
pub same_word : (e : Encoding) (f : Fields) → placed (codes_of e) f ≡ packed (in_format e f).parts
same_word (R _ _ _ _) f = omega arith
same_word e f = omega arith

-- ---- a kind by fields

twice : (z : ℤ) → to_word (pos (to_word z)) ≡ to_word z
twice (pos n) = omega arith
twice (negsuc n) = omega arith

worded : (x : Operation) (f : Fields) → encoded (fields_of (in_format (row x).1 f).kind) ≡ packed (in_format (row x).1 f).parts
unfolding fields_of
worded o.Lui f = omega (arith, twice f.imm)
worded x f = omega (arith, twice f.imm)

pub kind_word : (f : Fields) → word (kind_of f) ≡ encoded f
unfolding kind_of word
kind_word f = worded f.operation f

ranged : (x : Operation) (f : Fields) → f.rd < 32 → f.rs1 < 32 → f.rs2 < 32 → (in_format (row x).1 f).HasImmediate
    → IsInRange (in_format (row x).1 f).kind
ranged o.Lui f a b c h = search rules
ranged x f a b c h = search rules

pub kind_in_range : (f : Fields) → AreInRange f → IsInRange (kind_of f)
unfolding kind_of
kind_in_range f r = ranged f.operation f r.0 r.1 r.2 r.3

-- ---- the meaning of a word, by kinds

pub from_kinds : (w : ℕ) (o : Option Kind) → IsMeaning w o → Means w o
unfolding IsMeaning Means
from_kinds w (Some k) m =
    let f = fields_of k in
    (f, fields_in_range k m.0, kept k m.0, sym (kind_word f) ∙ ap word (kept k m.0) ∙ m.1)
from_kinds w None m = λ f r e. m (kind_of f) (kind_in_range f r) (kind_word f ∙ e)

pub by_kinds : (w : ℕ) (o : Option Kind) → Means w o → IsMeaning w o
unfolding IsMeaning Means
by_kinds w (Some k) m = (subst IsInRange m.2 (kind_in_range m.0 m.1), ap word (sym m.2) ∙ kind_word m.0 ∙ m.3)
by_kinds w None m = λ k r e. let f = fields_of k in
    m f (fields_in_range k r) (sym (kind_word f) ∙ ap word (kept k r) ∙ e)

pub word_means : (w : ℕ) (k : Kind) → IsInRange k → w ≡ word k → Means w (Some k)
unfolding IsMeaning
word_means w k r e = from_kinds w (Some k) (r, sym e)

pub means_kind : (w : ℕ) (k : Kind) → Means w (Some k) ↔ IsInRange k × (word k ≡ w)
unfolding IsMeaning
means_kind w k = (by_kinds w (Some k), from_kinds w (Some k))

-- the word of codes and fields is that of the kind
pub kind_encoded : (c : Codes) (f : Fields) (k : Kind) → c ≡ codes_of (row f.operation).1 → kind_of f ≡ k
    → placed c f ≡ word k
kind_encoded c f k e is = ap (λ c. placed c f) e ∙ same_word (row f.operation).1 f ∙ sym (kind_word f) ∙ ap word is
