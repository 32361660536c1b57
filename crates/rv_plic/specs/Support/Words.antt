-- Not to audit: private contracts alone cite this.
-- The law that the word of a set of sources is the word that the set was made of. No definition uses it: the
-- code keeps a set of sources as such a word.
use Rattle.std.proofs.Common.{◌≡◌, ℕ, zero, suc, ◌+◌, ◌*◌, ◌%◌, ◌^◌, ◌<◌, ◌≤◌, Bool, true, false, refl, sym, ◌∙◌, ap, arith, add-zero, inl, inr}
use Rattle.std.specs.Prelude.{◌==◌, ◌&&◌, nat_eq, filter, if◌then◌else◌}
use Rattle.std.specs.Ordering.{nat_cmp}
use Rattle.std.specs.Int.{bit_at}
use Rattle.std.specs.List.{range_with_len, sum_by, list_any}
use Rattle.std.specs.FinSet.{contains, from_list, contains-from_list_nat}
use Rattle.std.proofs.lemmas.Bool.{eqb-true, eq-eqb, or_right, or_left, cases_eq}
use Rattle.std.proofs.lemmas.Nat.{mod-pow-add}
use Rattle.std.proofs.lemmas.Nat.Bits.{bit_at_lowest, bit_at-lt, bit_at_above}
use Rattle.std.proofs.lemmas.List.Sums.{sum_by-cons}
use Rattle.std.proofs.lemmas.Map.Views.{any-filter_same}
use Rattle.rv_plic.specs.Sources.{sources, sources_of, word_of}

-- a word of sources has 32 bits, and bit 0 is 0
pub record IsSourceWord (word : ℕ) : Type 0 where
  pub fits : word < 2 ^ 32
  pub no_zero : word % 2 ≡ 0

-- one of n numbers from a on passes a test
pub any-range : (test : ℕ → Bool) (a n q : ℕ) → a ≤ q → q < a + n → test q ≡ true
    → list_any test (range_with_len a n) ≡ true
any-range test a zero q low high is = absurd (omega arith)
any-range test a (suc n) q low high is =
    elim (cases_eq q a) [
      | inl e ↦ or_left (test a) _ (ap test (sym e) ∙ is)
      | inr other ↦ or_right (test a) _ (any-range test (a + 1) n q (omega arith) (omega arith) is)
    ]

-- a bit that is 1 in a word of sources is that of a source
source_bit : (word q : ℕ) → IsSourceWord word → bit_at word q ≡ 1 → (1 ≤ q) × (q < 1 + 31)
source_bit word q is one = (grind (arith, bit_at_lowest word), grind (arith, bit_at_above word 32 q))

and_self : (x y : Bool) → (x ≡ true → y ≡ true) → (x && y) ≡ x
and_self true y h = h refl
and_self false y h = refl

pub contains-filtered : (p : ℕ → Bool) (a n q : ℕ) → (p q ≡ true → (a ≤ q) × (q < a + n))
    → contains (from_list {R = nat_cmp} (filter p (range_with_len a n))) q ≡ p q
contains-filtered p a n q within =
    contains-from_list_nat (filter p (range_with_len a n)) q
    ∙ any-filter_same (λ y. nat_eq y q) p (p q) (λ k e. ap p (eqb-true k q e)) (range_with_len a n)
    ∙ and_self (p q) _ (λ is. any-range (λ y. nat_eq y q) a n q (within is).0 (within is).1 (eq-eqb q q refl))

pub contains-sources_of : (word q : ℕ) → IsSourceWord word
    → contains (sources_of word) q ≡ (bit_at word q == 1)
unfolding sources_of sources
contains-sources_of word q is =
    contains-filtered (λ s. bit_at word s == 1) 1 31 q (λ e. source_bit word q is (eqb-true _ _ e))

-- ---- the word of a set of sources
sum-range : (f : ℕ → ℕ) (word a n : ℕ) → ((s : ℕ) → f s ≡ bit_at word s * 2 ^ s)
    → sum_by f (range_with_len a n) + word % 2 ^ a ≡ word % 2 ^ (a + n)
sum-range f word a zero each = omega (arith, ap (λ (j : ℕ). word % 2 ^ j) (add-zero a))
sum-range f word a (suc n) each =
    let next : 1 + a ≡ a + 1 = omega arith in
    let after : a + 1 + n ≡ a + suc n = omega arith in
    omega (
      arith,
      sum_by-cons f a (range_with_len (a + 1) n),
      sum-range f word (a + 1) n each,
      each a,
      mod-pow-add word 1 a,
      ap (λ (j : ℕ). word % 2 ^ j) next,
      ap (λ (j : ℕ). word % 2 ^ j) after,
    )

bit_place : (b s : ℕ) → b < 2 → (if b == 1 then 2 ^ s else 0) ≡ b * 2 ^ s
bit_place zero s below = omega arith
bit_place (suc zero) s below = omega arith
bit_place (suc (suc b)) s below = absurd (omega arith)

pub word_of-sources_of : (word : ℕ) → IsSourceWord word → word_of (sources_of word) ≡ word
unfolding word_of sources
word_of-sources_of word is =
    omega (
      arith,
      is.fits,
      is.no_zero,
      sum-range (λ s. if contains (sources_of word) s then 2 ^ s
          else 0) word 1 31 (λ s. ap (λ b. if b then 2 ^ s else 0) (contains-sources_of word s is)
          ∙ bit_place (bit_at word s) s (bit_at-lt word s)),
    )
