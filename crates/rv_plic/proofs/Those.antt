-- The set of the sources that pass a test, and how it is collected one by one.
use Rattle.std.proofs.Common.{rules, ◌≡◌, ℕ, ◌+◌, ◌<◌, ◌≤◌, Bool, true, false, ◌∙◌, ap, sym, arith, inl, inr}
use Rattle.std.proofs.lemmas.Bool.Decides.{nat_tests}
use Rattle.std.proofs.lemmas.Grind.{common_steps}
use Rattle.std.specs.Prelude.{◌&&◌, nat_lt, nat_le, nat_eq}
use Rattle.std.specs.List.{range_with_len, list_any}
use Rattle.std.specs.FinSet.{contains, insert, empty, contains-empty, contains-from_list_nat}
use Rattle.std.proofs.lemmas.Bool.{cases_eq, and_parts, and_from, and_left, ltb-true, leb-true, lt-ltb, le-leb, eqb-true, eq-eqb, ne_eqb, both_ways, false_from_ne_true}
use Rattle.std.proofs.lemmas.Map.Views.{any-filter_same}
use Rattle.rv_plic.specs.Sources.{sources, Sources}
use Rattle.rv_plic.specs.Support.AboveThreshold.{those}
use Rattle.rv_plic.specs.Support.Words.{any-range}
use Rattle.rv_plic.proofs.Best.{and_unless, none-range}
use Rattle.rv_plic.proofs.Words.{same_sources, inserted_it, inserted_other}

abbrev pub is_source : ℕ → Bool
is_source q = nat_le 1 q && nat_lt q 32

in_sources : (q : ℕ) → list_any (λ y. nat_eq y q) (range_with_len 1 31) ≡ is_source q
in_sources q = grind (arith, nat_tests, common_steps, ne_eqb, and_from, le-leb, lt-ltb, and_parts, ltb-true, leb-true, eq-eqb, none-range)

pub contains-those : (p : ℕ → Bool) (q : ℕ) → contains (those p) q ≡ (p q && is_source q)
unfolding sources
contains-those p q = contains-from_list_nat _ q
    ∙ any-filter_same (λ y. nat_eq y q) p (p q) (λ k e. ap p (eqb-true k q e)) (range_with_len 1 31)
    ∙ ap (λ b. p q && b) (in_sources q)

pub none_pass : (p : ℕ → Bool) (s : Sources) → s ≡ empty → ((q : ℕ) → p q ≡ false) → those p ≡ s
none_pass p s none fails = search (rules, same_sources, contains-those, contains-empty)

its_source : (n : ℕ) → 1 ≤ n → n < 32 → is_source n ≡ true
its_source n low high = search (rules, and_from, le-leb, lt-ltb)

-- ---- whether one passes

pub none_any : (p : ℕ → Bool) → ((q : ℕ) → (p q && is_source q) ≡ false) → list_any p sources ≡ false
unfolding sources
none_any p none = none-range p 1 31 (λ q low high. search (rules, its_source, none q))

pub any_none : (p : ℕ → Bool) → list_any p sources ≡ false → (q : ℕ) → (p q && is_source q) ≡ false
unfolding sources
any_none p quiet q = false_from_ne_true _ (λ one. let parts = and_parts _ _ one in let range = and_parts _ _ parts.1 in
    both_ways _ quiet (any-range p 1 31 q (leb-true 1 q range.0) (ltb-true q 32 range.1) parts.0))

-- ---- one by one

-- a set has the sources with numbers below `number` that pass, and no others
abbrev pub HasThoseBelow : ℕ → (ℕ → Bool) → Sources → Type 0
HasThoseBelow number p s = (q : ℕ) → contains s q ≡ (nat_lt q number && (p q && is_source q))

pub none_yet : (p : ℕ → Bool) (s : Sources) → s ≡ empty → HasThoseBelow 1 p s
none_yet p s none q = search (rules, contains-empty, nat_tests, and_unless, and_left, ltb-true)

next_number : (q n : ℕ) → (q ≡ n → ⊥) → nat_lt q n ≡ nat_lt q (n + 1)
next_number q n other = grind (arith, nat_tests)

its_number : (q n : ℕ) → q ≡ n → nat_lt q (n + 1) ≡ true
its_number q n e = lt-ltb q (n + 1) (omega arith)

pub with_next : (p : ℕ → Bool) (n m : ℕ) (s : Sources) → HasThoseBelow n p s → m ≡ n → 0 < n → n < 32 → p m ≡ true
    → HasThoseBelow (n + 1) p (insert s m)
with_next p n m s so_far is low high passes q = elim (cases_eq q m) [
  | inl e ↦ rw e (inserted_it s m ∙ sym (and_from _ _ (its_number m n is) (and_from _ _ passes (rw is (its_source n low high)))))
  | inr other ↦ inserted_other s m q other
      ∙ (so_far q ∙ ap (λ b. b && (p q && is_source q)) (next_number q n (λ e. other (e ∙ sym is))))
]

pub without_next : (p : ℕ → Bool) (n m : ℕ) (s : Sources) → HasThoseBelow n p s → m ≡ n → p m ≡ false
    → HasThoseBelow (n + 1) p s
without_next p n m s so_far is fails q = elim (cases_eq q m) [
  | inl e ↦ rw e (grind (arith, nat_tests, common_steps, so_far m, fails))
  | inr other ↦ so_far q ∙ ap (λ b. b && (p q && is_source q)) (next_number q n (λ e. other (e ∙ sym is)))
]

pub has_all : (p : ℕ → Bool) (n : ℕ) (s : Sources) → 32 ≤ n → HasThoseBelow n p s → s ≡ those p
has_all p n s past all = search (rules, nat_tests, same_sources, contains-those)
