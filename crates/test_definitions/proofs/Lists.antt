-- The tables of src/controller.rt, run. Sets don't compute, so the controller runs over lists of sources, of which
-- its sets are made.
use Rattle.std.proofs.Common.{rules, ◌≡◌, refl, true, ℕ, ◌-◌, ◌%◌, ◌^◌, ◌==◌, Bool, List, [], ◌∷◌, ◌++◌, map, length, Option, Some, None, eqb-true}
use Rattle.std.specs.Prelude.{◌&&◌, not, nat_eq, nat_lt, filter, find, replicate, slice_index, slice_set, unwrap_or, if◌then◌else◌}
use Rattle.std.specs.Bool.{beq}
use Rattle.std.specs.FinSet.{contains, contains-difference, contains-from_list_nat, contains-remove, contains-union, difference, from_list, remove, union}
use Rattle.std.specs.Int.{bit_at}
use Rattle.std.specs.List.{list_all, list_any, range_with_len, sum_by}
use Rattle.std.specs.Option.{option_map_or}
use Rattle.std.proofs.lemmas.Bool.{and_parts}
use Rattle.std.proofs.lemmas.Cmp.{nat_cmp_total}
use Rattle.std.proofs.lemmas.List.Folds.{list_any-append}
use Rattle.std.proofs.lemmas.Map.Views.{any-filter_same}
use Rattle.rv_plic.specs.Sources.{Sources, sources, sources_of, word_of}
use Rattle.rv_plic.specs.Gateways.{PlicState, asking_sources, edges_of, forwarded, is_by_edge, one_more, requests, plic_at_reset, with_line}
use Rattle.rv_plic.specs.Plic.{best, is_notified}
use Rattle.rv_plic.specs.Support.Registers.{after_reading, reg_at, with_word, word_at}
use Rattle.rv_plic.specs.declared.register.PlicReg.{PlicReg}
use Rattle.rv_plic.specs.declared.register.PlicReg.TheVariants.{Priority, Pending, Enables, Threshold, Claim}
use Rattle.rv_plic.proofs.Rows.{loaded, loads, stores}
use Rattle.rv_plic.proofs.Words.{same_sources}
use Rattle.test_definitions.specs.Support.Controller.{after, shows, shows_all}
use Rattle.test_definitions.specs.declared.controller.Act.{Act}
use Rattle.test_definitions.specs.declared.controller.Act.TheVariants.{Line, Tick, Store, Load, External}
use Rattle.test_definitions.specs.declared.controller.TheConstants.{EQUAL, COMPLETE, EDGES, NESTED}

-- ---- sets by their lists

abbrev pub set_of : List ℕ → Sources
set_of xs = from_list xs

abbrev has : List ℕ → ℕ → Bool
has xs q = list_any (λ y. nat_eq y q) xs

abbrev without : ℕ → List ℕ → List ℕ
without s xs = filter (λ x. not (x == s)) xs

has_is : (xs : List ℕ) (q : ℕ) → contains (set_of xs) q ≡ has xs q
has_is xs q = contains-from_list_nat xs q

filtered : (p : ℕ → Bool) (xs : List ℕ) (q : ℕ) → contains (set_of (filter p xs)) q ≡ (p q && has xs q)
filtered p xs q = search (rules, has_is, any-filter_same, eqb-true)

removed : (xs : List ℕ) (s : ℕ) → remove (set_of xs) s ≡ set_of (without s xs)
removed xs s = search (rules, same_sources, contains-remove, nat_cmp_total, has_is, filtered)

joined : (xs ys : List ℕ) → union (set_of xs) (set_of ys) ≡ set_of (xs ++ ys)
joined xs ys = search (rules, same_sources, contains-union, nat_cmp_total, has_is, list_any-append)

differs : (xs ys : List ℕ) → difference (set_of xs) (set_of ys) ≡ set_of (filter (λ s. not (has ys s)) xs)
differs xs ys = search (rules, same_sources, contains-difference, nat_cmp_total, has_is, filtered)

-- ---- the controller over lists

pub record OfLists : Type 0 where
  pub high : List ℕ
  pub edges : List ℕ
  pub outstanding : List ℕ
  pub pending : List ℕ
  pub enabled : List ℕ
  pub priorities : List ℕ
  pub threshold : ℕ

abbrev pub of : OfLists → PlicState
of m = record {
  high = set_of m.high;
  edges = m.edges;
  outstanding = set_of m.outstanding;
  pending = set_of m.pending;
  enabled = set_of m.enabled;
  priorities = m.priorities;
  threshold = m.threshold;
}

-- ---- lines and ticks

abbrev edges_by : OfLists → ℕ → Bool → Bool → List ℕ
edges_by m s level was =
    if is_by_edge s && level && not was then slice_set m.edges (s - 24) (one_more (edges_of m.edges s)) else m.edges

abbrev pub line_by : OfLists → ℕ → Bool → OfLists
line_by m s level = record m {
  high = if level then s ∷ m.high else without s m.high;
  edges = edges_by m s level (has m.high s);
}

pub line_is : (m : OfLists) (s : ℕ) (level : Bool) → with_line (of m) s level ≡ of (line_by m s level)
line_is m s level = search (rules, removed, has_is)

abbrev asks_by : List ℕ → (ℕ → Bool) → List ℕ
asks_by edges high = filter (λ s. if is_by_edge s then nat_lt 0 (edges_of edges s) else high s) sources

abbrev pub requests_by : OfLists → List ℕ
requests_by m =
    filter (λ s. not (has m.pending s)) (filter (λ s. not (has m.outstanding s)) (asks_by m.edges (has m.high)))

pub requests_are : (m : OfLists) → requests (of m) ≡ set_of (requests_by m)
unfolding asking_sources
requests_are m = simp (has_is, differs)

abbrev taken_by : List ℕ → (ℕ → Bool) → List ℕ
taken_by edges new =
    map (λ s. edges_of edges s - (if new s then 1 else 0)) (range_with_len 24 (length edges))

abbrev pub forwarded_by : OfLists → OfLists
forwarded_by m =
    let new = requests_by m in record m {
      edges = taken_by m.edges (has new);
      outstanding = m.outstanding ++ new;
      pending = m.pending ++ new;
    }

pub forwarded_is : (m : OfLists) → forwarded (of m) ≡ of (forwarded_by m)
forwarded_is m = simp (requests_are, has_is, joined)

-- ---- the best source

module _ (priorities : List ℕ) (pending enabled : ℕ → Bool) where
  abbrev asks_above_by : ℕ → ℕ → Bool
  asks_above_by level s = pending s && enabled s && nat_lt level (slice_index priorities s)

  abbrev best_of : Option ℕ
  best_of =
      find (λ s. asks_above_by 0 s && not (list_any (asks_above_by (slice_index priorities s)) sources)) sources

abbrev best_by : OfLists → Option ℕ
best_by m = best_of m.priorities (has m.pending) (has m.enabled)

best_is : (m : OfLists) → best (of m) ≡ best_by m
unfolding best
best_is m = search (rules, has_is)

abbrev pub notified_by : OfLists → Bool
notified_by m = list_any (asks_above_by m.priorities (has m.pending) (has m.enabled) m.threshold) sources

pub notified_is : (m : OfLists) → is_notified (of m) ≡ notified_by m
unfolding is_notified
notified_is m = search (rules, has_is)

-- ---- the registers

abbrev set_word : List ℕ → ℕ
set_word xs = sum_by (λ s. if has xs s then 2 ^ s else 0) sources

abbrev claimed_by : OfLists → OfLists
claimed_by m = option_map_or (λ s. record m { pending = without s m.pending }) (best_by m) m

abbrev completed_by : OfLists → ℕ → OfLists
completed_by m word =
    if has m.enabled word then record m { outstanding = without word m.outstanding } else m

abbrev pub word_by : OfLists → Option PlicReg → ℕ
word_by m None = 0
word_by m (Some (Priority s)) = slice_index m.priorities s
word_by m (Some Pending) = set_word m.pending
word_by m (Some Enables) = set_word m.enabled
word_by m (Some Threshold) = m.threshold
word_by m (Some Claim) = unwrap_or (best_by m) 0

pub words_are : (m : OfLists) (reg : Option PlicReg) → option_map_or (word_at (of m)) reg 0 ≡ word_by m reg
unfolding word_of
words_are m reg = search (rules, best_is, has_is)

abbrev pub stored_by : OfLists → ℕ → Option PlicReg → OfLists
stored_by m word (Some (Priority s)) = record m { priorities = slice_set m.priorities s (word % 8) }
stored_by m word (Some Enables) = record m { enabled = filter (λ s. bit_at word s == 1) sources }
stored_by m word (Some Threshold) = record m { threshold = word % 8 }
stored_by m word (Some Claim) = completed_by m word
stored_by m word reg = m

pub stored_is : (m : OfLists) (word : ℕ) (reg : Option PlicReg)
    → option_map_or (λ r. with_word (of m) r word) reg (of m) ≡ of (stored_by m word reg)
unfolding sources_of
stored_is m word reg = search (rules, has_is, removed)

abbrev pub loaded_by : OfLists → Option PlicReg → OfLists
loaded_by m (Some Claim) = claimed_by m
loaded_by m reg = m

pub loaded_is : (m : OfLists) (reg : Option PlicReg)
    → option_map_or (after_reading (of m)) reg (of m) ≡ of (loaded_by m reg)
loaded_is m reg = search (rules, best_is, removed)

-- ---- a table

abbrev after_by : OfLists → Act → ℕ → ℕ → OfLists
after_by m Line s level = line_by m s (level == 1)
after_by m Tick off word = forwarded_by m
after_by m Store off word = stored_by m word (reg_at off)
after_by m Load off word = loaded_by m (reg_at off)
after_by m External off word = m

-- whether it shows what is asked, at an offset that is a multiple of 4
abbrev shows_by : OfLists → Act → ℕ → ℕ → Bool
shows_by m Store off word = off % 4 == 0
shows_by m Load off word = (off % 4 == 0) && (word_by m (reg_at off) == word)
shows_by m External off level = beq (notified_by m) (level == 1)
shows_by m act off word = true

abbrev all_by : OfLists → List (Act × ℕ × ℕ) → Bool
all_by m [] = true
all_by m (row ∷ rows) = shows_by m row.0 row.1 row.2 && all_by (after_by m row.0 row.1 row.2) rows

after_is : (m : OfLists) (act : Act) (off word : ℕ) → shows_by m act off word ≡ true
    → after (of m) act off word ≡ of (after_by m act off word)
after_is m Tick off word is = forwarded_is m
after_is m act off word is = search (rules, line_is, stores, eqb-true, stored_is, loaded, loaded_is, and_parts)

shows_is : (m : OfLists) (act : Act) (off word : ℕ) → shows_by m act off word ≡ true
    → shows (of m) act off word ≡ true
shows_is m act off word is = search (rules, loads, eqb-true, words_are, notified_is, and_parts)

all_show : (m : OfLists) (rows : List (Act × ℕ × ℕ)) → all_by m rows ≡ true → shows_all (of m) rows ≡ true
all_show m [] is = refl
all_show m (row ∷ rows) is = search (rules, and_parts, shows_is, after_is, all_show (after_by m row.0 row.1 row.2) rows)

abbrev pub at_reset : OfLists
at_reset = record {
  high = [];
  edges = replicate 8 0;
  outstanding = [];
  pending = [];
  enabled = [];
  priorities = replicate 32 0;
  threshold = 0;
}

pub each_table : list_all (shows_all plic_at_reset) (EQUAL ∷ COMPLETE ∷ EDGES ∷ NESTED ∷ []) ≡ true
unfolding sources reg_at
each_table = rw (
  all_show at_reset EQUAL refl,
  all_show at_reset COMPLETE refl,
  all_show at_reset EDGES refl,
  all_show at_reset NESTED refl,
) refl
