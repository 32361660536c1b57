-- The rows of a word: those of one that begins with a dot and of one that doesn't, and those of an operation.
use Rattle.std.proofs.Common.{◌≡◌, ℕ, Bool, true, false, List, [], ◌∷◌, not, refl, rules}
use Rattle.std.specs.List.{list_all, list_any}
use Rattle.std.specs.Str.{bytes_eq}
use Rattle.std.proofs.lemmas.List.{append-nil}
use Rattle.std.proofs.lemmas.List.Elements.{filter_map-append}
use Rattle.std.specs.Option.{ok_or}
use Rattle.rv_isa.specs.declared.op.Operation.{Operation}
use Rattle.rv_isa.specs.declared.kind.Kind.{Kind}
use Rattle.rv_tokens.specs.declared.fault.LineFault.TheVariants.{UnknownWord, BadOperands}
use Rattle.rv_source.specs.declared.operand.Operand.{Operand}
use Rattle.rv_source.specs.Support.Partial.{first_fit, fitted_or, has_dot, is_marker, of_word, words}
use Rattle.rv_source.proofs.Sets.{both_parts}
use Rattle.rv_source.specs.Table.{Row, directives, of_kind, markers, pseudo_instructions}

-- two texts of which one begins with a dot
dot_alone : (a b : List ℕ) → has_dot a ≡ true → has_dot b ≡ false → bytes_eq a b ≡ false
dot_alone a b e f = search rules

alone_dot : (a b : List ℕ) → has_dot a ≡ false → has_dot b ≡ true → bytes_eq a b ≡ false
alone_dot a b e f = search rules

-- ---- rows

is_not : (b : Bool) → not b ≡ true → b ≡ false
is_not b e = search rules

all_dots : (word : List ℕ) (rows : List (List ℕ × Row)) → list_all (λ row. has_dot row.0) rows ≡ true →
    has_dot word ≡ false → of_word word rows ≡ []
all_dots word [] e f = refl
all_dots word (row ∷ rows) e f = search (rules, dot_alone, both_parts, all_dots word rows)

no_dots : (word : List ℕ) (rows : List (List ℕ × Row)) → list_all (λ row. not (has_dot row.0)) rows ≡ true →
    has_dot word ≡ true → of_word word rows ≡ []
no_dots word [] e f = refl
no_dots word (row ∷ rows) e f = search (rules, alone_dot, both_parts, is_not, no_dots word rows)

plain : list_all (λ row. not (has_dot row.0)) pseudo_instructions ≡ true
unfolding pseudo_instructions
plain = refl

dotted : list_all (λ row. has_dot row.0) directives ≡ true
unfolding directives
dotted = refl

pub of_directive : (word : List ℕ) → has_dot word ≡ true → of_word word words ≡ of_word word directives
of_directive word e = search (rules, filter_map-append, no_dots, plain)

pub of_other : (word : List ℕ) → has_dot word ≡ false → of_word word words ≡ of_word word pseudo_instructions
of_other word e = search (rules, filter_map-append, all_dots, dotted, append-nil)

-- ---- markers

none_among : (word : List ℕ) (names : List (List ℕ)) → list_all has_dot names ≡ true →
    has_dot word ≡ false → list_any (λ name. bytes_eq name word) names ≡ false
none_among word [] e f = refl
none_among word (name ∷ names) e f = search (rules, dot_alone, none_among word names)

pub no_marker : (word : List ℕ) → has_dot word ≡ false → is_marker word ≡ false
unfolding markers
no_marker word e = none_among word markers refl e

-- ---- operations

pub has_rows : (op : Operation) (k : Kind) (xs : List Operand) →
    fitted_or UnknownWord xs (of_kind op k) ≡ ok_or (first_fit xs (of_kind op k)) BadOperands
unfolding of_kind
has_rows op k xs = search rules
