-- Words of sources, and the sets that they stand for.
use Rattle.std.proofs.lemmas.Bool.Decides.{nat_tests}
use Rattle.std.proofs.lemmas.Grind.{common_steps}
use Rattle.std.proofs.Common.{rules, true, ◌≡◌, ℕ, zero, suc, ◌+◌, ◌-◌, ◌*◌, ◌/◌, ◌%◌, ◌^◌, ◌<◌, ◌≤◌, Bool, false, lit<, refl, sym, ◌∙◌, ap, arith, bit_and, bit_or, inl, inr}
use Rattle.std.specs.Prelude.{◌==◌, filter, max, min}
use Rattle.std.specs.Ordering.{nat_cmp}
use Rattle.std.specs.Int.{bit_at, bit_not, w32}
use Rattle.std.specs.List.{range_with_len}
use Rattle.std.specs.FinSet.{contains, from_list, insert, remove, union, intersection, difference, same_set, contains-union, contains-intersection, contains-difference, contains-insert, contains-remove, empty, nat_cmp-IsAntisymmetric}
use Rattle.std.specs.Cmp.{nat_cmp_total}
use Rattle.std.proofs.Math.Pow.{pow-lt}
use Rattle.std.proofs.lemmas.Bool.{eq-eqb, ne_eqb, or_left, cases_eq, cases_lt}
use Rattle.std.proofs.lemmas.Nat.{or_lt, and_le_l}
use Rattle.std.proofs.lemmas.Nat.Bits.{bit_at_lowest, bit_at_and, bit_at_or, bit_at_not, bit_at-lt, bit_at_above, shr_and_one, bit_at_set_same, bit_at_set_other, bit_at_clear_same, bit_at_clear_other, bit_at-pow_other, bit_at_mask_inside, bit_at_mask_below}
use Rattle.rv_plic.specs.Sources.{sources, Sources, sources_of, word_of}
use Rattle.rv_plic.specs.Support.Words.{IsSourceWord, contains-sources_of, word_of-sources_of}

-- two sets with the same sources are equal
pub same_sources : (s t : Sources) → ((q : ℕ) → contains s q ≡ contains t q) → s ≡ t
same_sources = same_set nat_cmp_total nat_cmp-IsAntisymmetric

-- ---- a set with one source more or less

pub inserted_other : (high : Sources) (s q : ℕ) → (q ≡ s → ⊥) → contains (insert high s) q ≡ contains high q
inserted_other high s q other = search (rules, contains-insert, nat_cmp_total, ne_eqb)

pub removed_other : (high : Sources) (s q : ℕ) → (q ≡ s → ⊥) → contains (remove high s) q ≡ contains high q
removed_other high s q other = search (rules, contains-remove, nat_cmp_total, ne_eqb)

pub inserted_it : (high : Sources) (s : ℕ) → contains (insert high s) s ≡ true
inserted_it high s = search (rules, contains-insert, nat_cmp_total, or_left, eq-eqb)

pub removed_it : (high : Sources) (s : ℕ) → contains (remove high s) s ≡ false
removed_it high s = search (rules, contains-remove, nat_cmp_total, eq-eqb)

pub inserted : (s t : Sources) (n : ℕ) → contains t n ≡ true
    → ((q : ℕ) → (q ≡ n → ⊥) → contains t q ≡ contains s q) → t ≡ insert s n
inserted s t n it others = search (rules, nat_tests, same_sources, insert, cases_eq, contains, inserted_it, inserted_other)

pub removed : (s t : Sources) (n : ℕ) → contains t n ≡ false
    → ((q : ℕ) → (q ≡ n → ⊥) → contains t q ≡ contains s q) → t ≡ remove s n
removed s t n it others = search (rules, nat_tests, same_sources, remove, cases_eq, contains, removed_it, removed_other)

-- ---- the operations of sets as those of words
pub or_word : (a b : ℕ) → IsSourceWord a → IsSourceWord b → IsSourceWord (bit_or a b)
or_word a b is also = record {
  fits = or_lt 32 a b is.fits also.fits;
  no_zero = omega (arith, bit_at_lowest a, bit_at_lowest b, bit_at_lowest (bit_or a b), bit_at_or a b 0);
}

pub and_word : (a b : ℕ) → IsSourceWord a → IsSourceWord (bit_and a b)
and_word a b is = record {
  fits = omega (arith, and_le_l a b, is.fits);
  no_zero = omega (arith, bit_at_lowest a, bit_at_lowest b, bit_at_lowest (bit_and a b), bit_at_and a b 0);
}

-- two functions of bits that are equal at each pair of bits
same_at_bits : (f g : ℕ → ℕ → Bool) → f 0 0 ≡ g 0 0 → f 0 1 ≡ g 0 1 → f 1 0 ≡ g 1 0 → f 1 1 ≡ g 1 1
    → (x y : ℕ) → x < 2 → y < 2 → f x y ≡ g x y
same_at_bits f g none right left both x y h k = search rules

pub union_word : (a b : ℕ) → IsSourceWord a → IsSourceWord b
    → sources_of (bit_or a b) ≡ union (sources_of a) (sources_of b)
union_word a b is also = search (rules, same_sources, contains-sources_of, bit_or, or_word, bit_at_or, bit_at-lt, contains-union, nat_cmp_total, same_at_bits, max)

pub intersection_word : (a b : ℕ) → IsSourceWord a → IsSourceWord b
    → sources_of (bit_and a b) ≡ intersection (sources_of a) (sources_of b)
intersection_word a b is also = search (rules, nat_tests, same_sources, contains-sources_of, bit_and, and_word, bit_at_and, bit_at-lt, contains-intersection, nat_cmp_total)

without_bit : (a b q : ℕ) → IsSourceWord a → IsSourceWord b
    → bit_at (bit_and a (bit_not w32 b)) q ≡ min (bit_at a q) (1 - bit_at b q)
without_bit a b q is also =
    grind (arith, nat_tests, common_steps, bit_at_and, bit_at_not w32 b q also.fits, bit_at_above a 32 q is.fits)

pub difference_word : (a b : ℕ) → IsSourceWord a → IsSourceWord b
    → sources_of (bit_and a (bit_not w32 b)) ≡ difference (sources_of a) (sources_of b)
difference_word a b is also = search (rules, nat_tests, same_sources, contains-sources_of, and_word, without_bit, bit_at-lt, contains-difference, nat_cmp_total)

-- the word of one source
pub place_word : (s : ℕ) → 0 < s → s < 32 → IsSourceWord (1 * 2 ^ s % 2 ^ 32)
place_word s low high =
    let other : 0 ≡ s → ⊥ = λ e. omega arith in
    let below : 2 ^ s < 2 ^ 32 = pow-lt high in
    record { fits = omega arith; no_zero = omega (arith, bit_at_lowest (2 ^ s), bit_at-pow_other s 0 other) }

pub insert_word : (a s : ℕ) → IsSourceWord a → 0 < s → s < 32
    → sources_of (bit_or a (1 * 2 ^ s % 2 ^ 32)) ≡ insert (sources_of a) s
insert_word a s is low high =
    let word = or_word a (1 * 2 ^ s % 2 ^ 32) is (place_word s low high) in
    search (rules, inserted, contains-sources_of, bit_at_set_same w32, bit_at_set_other w32)

cleared_bit : (a s q : ℕ) → IsSourceWord a → s < 32 → (q ≡ s → ⊥)
    → bit_at (bit_and a (bit_not w32 (1 * 2 ^ s % 2 ^ 32))) q ≡ bit_at a q
cleared_bit a s q is high other = elim (cases_lt q 32) [
  | inl below ↦ bit_at_clear_other w32 a s high q below other
  | inr above ↦ omega (arith, bit_at_and a (bit_not w32 (1 * 2 ^ s % 2 ^ 32)) q, bit_at_above a 32 q is.fits above)
]

pub remove_word : (a s : ℕ) → IsSourceWord a → 0 < s → s < 32
    → sources_of (bit_and a (bit_not w32 (1 * 2 ^ s % 2 ^ 32))) ≡ remove (sources_of a) s
remove_word a s is low high =
    let word = and_word a (bit_not w32 (1 * 2 ^ s % 2 ^ 32)) is in
    search (rules, removed, contains-sources_of, bit_at_clear_same w32, cleared_bit)

filter-range : (p r : ℕ → Bool) (a n : ℕ) → ((s : ℕ) → a ≤ s → s < a + n → p s ≡ r s)
    → filter p (range_with_len a n) ≡ filter r (range_with_len a n)
filter-range p r a zero same = refl
filter-range p r a (suc n) same = grind (arith, nat_tests, common_steps, filter-range p r (a + 1) n)

kept_bit : (word s : ℕ) → 1 ≤ s → s < 1 + 31 → bit_at (bit_and word (2 ^ 32 - 2 ^ 1)) s ≡ bit_at word s
kept_bit word s low high =
    omega (arith, bit_at_and word (2 ^ 32 - 2 ^ 1) s, bit_at_mask_inside 1 32 s low high, bit_at-lt word s)

-- without bit 0 a word has the same sources
pub even_word : (word : ℕ) → sources_of (bit_and word (bit_not w32 1)) ≡ sources_of word
unfolding sources_of sources
even_word word =
    ap (λ xs. from_list {R = nat_cmp} xs) (filter-range (λ s. bit_at (bit_and word (2 ^ 32 - 2 ^ 1)) s == 1)
    (λ s. bit_at word s == 1) 1 31 (λ s low high. ap (λ n. n == 1) (kept_bit word s low high)))

pub even_is_word : (word : ℕ) → word < 2 ^ 32 → IsSourceWord (bit_and word (bit_not w32 1))
even_is_word word fits = grind (arith, nat_tests, common_steps, and_le_l, bit_at_lowest, bit_and, bit_at_and, bit_at_mask_below)

pub empty_word : sources_of 0 ≡ empty
unfolding sources_of sources
empty_word = refl

pub empty_is_zero : (word : ℕ) → IsSourceWord word → sources_of word ≡ empty → word ≡ 0
empty_is_zero word is none =
    sym (word_of-sources_of word is) ∙ ap word_of (none ∙ sym empty_word) ∙ word_of-sources_of 0 (record { fits = lit< tt; no_zero = refl })

pub zero_is_empty : (word : ℕ) → word ≡ 0 → sources_of word ≡ empty
zero_is_empty word is = ap sources_of is ∙ empty_word

-- the test of a bit
pub tested_bit : (word number : ℕ) → IsSourceWord word
    → contains (sources_of word) number ≡ (bit_and (word / 2 ^ number) 1 == 1)
tested_bit word number is = search (rules, contains-sources_of, shr_and_one)

pub no_bit : (word number : ℕ) → IsSourceWord word → 32 ≤ number → contains (sources_of word) number ≡ false
no_bit word number is high =
    contains-sources_of word number is ∙ ap (λ n. n == 1) (bit_at_above word 32 number is.fits high)

pub ruleset words = (
  union_word,
  intersection_word,
  difference_word,
  insert_word,
  remove_word,
  even_word,
  even_is_word,
  or_word,
  and_word,
  place_word,
  empty_word,
  empty_is_zero,
  zero_is_empty,
  tested_bit,
  no_bit,
  word_of-sources_of,
)
