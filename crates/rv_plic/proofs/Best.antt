-- The best source by its property, and the search for it.
use Rattle.std.proofs.lemmas.Bool.Decides.{nat_tests}
use Rattle.std.proofs.lemmas.Grind.{common_steps}
use Rattle.std.proofs.Common.{rules, ◌≡◌, ℕ, zero, suc, ◌+◌, ◌<◌, ◌≤◌, Bool, true, false, refl, sym, ◌∙◌, ap, arith}
use Rattle.std.specs.Prelude.{◌&&◌, not, nat_lt, slice_index, Option, Some, None}
use Rattle.std.specs.List.{range_with_len, find, list_any}
use Rattle.std.specs.FinSet.{contains, intersection, empty, contains-empty, contains-intersection}
use Rattle.std.specs.Ordering.{nat_cmp}
use Rattle.std.specs.Cmp.{nat_cmp_total}
use Rattle.std.proofs.lemmas.Bool.{cases_eq, and_parts, and_from, or_from, and_left, not_from_false}
use Rattle.rv_plic.specs.Sources.{sources}
use Rattle.rv_plic.specs.Support.Words.{any-range}
use Rattle.rv_plic.specs.Gateways.{PlicState}
use Rattle.rv_plic.specs.Plic.{priority_of, best}
use Rattle.rv_plic.specs.Support.Best.{IsFirst, IsBestBelow, IsBest, is_waiting}

pub and_unless : (x y : Bool) → (x ≡ true → y ≡ false) → (x && y) ≡ false
and_unless x y h = search rules

pub none-range : (test : ℕ → Bool) (a n : ℕ) → ((t : ℕ) → a ≤ t → t < a + n → test t ≡ false)
    → list_any test (range_with_len a n) ≡ false
none-range test a zero none = refl
none-range test a (suc n) none = grind (arith, nat_tests, common_steps, or_from, none-range test (a + 1) n)

find_none-range : (test : ℕ → Bool) (a n : ℕ) → ((t : ℕ) → a ≤ t → t < a + n → test t ≡ false)
    → find test (range_with_len a n) ≡ None
find_none-range test a zero none = refl
find_none-range test a (suc n) none = grind (arith, nat_tests, common_steps, find_none-range test (a + 1) n)

-- a search finds a number that passes, where no lower one does
find_first-range : (test : ℕ → Bool) (a n b : ℕ) → a ≤ b → b < a + n → test b ≡ true
    → ((t : ℕ) → a ≤ t → t < b → test t ≡ false) → find test (range_with_len a n) ≡ Some b
find_first-range test a zero b low high is none = absurd (omega arith)
find_first-range test a (suc n) b low high is none = grind (arith, nat_tests, common_steps, cases_eq, find_first-range test (a + 1) n b)

module _ (waits : ℕ → Bool) (priority : ℕ → ℕ) where
  -- whether a source waits with a priority above another one
  abbrev above : ℕ → ℕ → Bool
  above limit source = waits source && nat_lt limit (priority source)

  -- a source with a lower number than the best has a lower priority
  above_lower : (source other : ℕ) → IsFirst priority source other → other < source → waits source ≡ true
      → above (priority other) source ≡ true
  above_lower source other first lower waiting = search rules

  module _ (n : ℕ) where
    abbrev is_unbeaten : ℕ → Bool
    is_unbeaten source = above 0 source && not (list_any (above (priority source)) (range_with_len 1 n))

    best_is_unbeaten : (source : ℕ) → IsBestBelow (1 + n) (above 0) priority (Some source) → is_unbeaten source ≡ true
    best_is_unbeaten source is = search (rules, nat_tests, and_from, not_from_false, none-range)

    lower_is_beaten : (source other : ℕ) → IsBestBelow (1 + n) (above 0) priority (Some source) → 1 ≤ other
        → other < source → is_unbeaten other ≡ false
    lower_is_beaten source other is low lower =
        and_unless (above 0 other) _ (λ passes. ap not (any-range (above (priority other)) 1 n source is.0 is.1
        (above_lower source other (is.3 other low (omega (arith, is.1)) passes) lower (and_parts _ _ is.2).0)))

    search_finds_best : (found : Option ℕ) → IsBestBelow (1 + n) (above 0) priority found
        → find is_unbeaten (range_with_len 1 n) ≡ found
    search_finds_best None none = search (rules, find_none-range, and_left)
    search_finds_best (Some source) is = search (rules, find_first-range, best_is_unbeaten, lower_is_beaten)

pub best_by_property : (plic : PlicState) (found : Option ℕ) → IsBest plic found → best plic ≡ found
unfolding best sources
best_by_property plic found is = search_finds_best (is_waiting plic) (priority_of plic) 31 found is

pub best_of_intersection : (plic : PlicState) (found : Option ℕ)
    → IsBestBelow 32 (λ s. contains (intersection plic.pending plic.enabled) s
    && nat_lt 0 (slice_index plic.priorities s)) (slice_index plic.priorities) found → IsBest plic found
best_of_intersection plic found is = search (rules, contains, intersection, contains-intersection)

pub best_of_empty : (plic : PlicState) → intersection plic.pending plic.enabled ≡ empty → IsBest plic None
best_of_empty plic none = λ t low high. and_left (is_waiting plic t) _ (sym
    (contains-intersection nat_cmp_total plic.pending plic.enabled t) ∙ ap (λ s. contains s t) none
    ∙ contains-empty nat_cmp t)

pub ruleset best_rules = (best_by_property, best_of_intersection, best_of_empty)
