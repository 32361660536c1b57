-- Counts of edges, where those of a set of sources are changed.
use Rattle.std.proofs.Common.{rules, ◌≡◌, ℕ, zero, suc, ◌+◌, ◌^◌, ◌<◌, ◌≤◌, true, false, [], ◌∷◌, refl, sym, ◌∙◌, ap, arith}
use Rattle.std.proofs.lemmas.Bool.Decides.{nat_tests}
use Rattle.std.proofs.lemmas.Grind.{common_steps}
use Rattle.std.specs.Prelude.{length, slice_index, slice_set, get_or, if◌then◌else◌}
use Rattle.std.specs.FinSet.{contains}
use Rattle.std.proofs.lemmas.List.{same_lists}
use Rattle.std.proofs.lemmas.List.FromFn.{get_or-map-range_with_len, length-map-range_with_len}
use Rattle.rv_plic.specs.Sources.{Sources}
use Rattle.rv_plic.specs.Gateways.{one_more}
use Rattle.rv_plic.specs.Withdrawn.{with_more_edges}
use Rattle.rv_plic.specs.Support.GatewayState.{Edges, taken}
use Rattle.rv_plic.specs.Support.Changes.{one_less, changed}

pub length-changed : (f : ℕ → ℕ) (s : Sources) (a : ℕ) (edges : Edges) → length (changed f s a edges) ≡ length edges
unfolding changed
length-changed f s a [] = refl
length-changed f s a (n ∷ ns) = ap suc (length-changed f s (a + 1) ns)

get_or-changed : (f : ℕ → ℕ) (s : Sources) (a : ℕ) (edges : Edges) (k d : ℕ) → k < length edges
    → get_or (changed f s a edges) k d ≡ (if contains s (a + k) then f (get_or edges k d) else get_or edges k d)
unfolding changed
get_or-changed f s a [] k d in_list = absurd (omega arith)
get_or-changed f s a (n ∷ ns) zero d in_list = search rules
get_or-changed f s a (n ∷ ns) (suc k) d in_list = grind (arith, nat_tests, common_steps, contains, get_or-changed f s (a + 1) ns k d)

pub nothing_changed : (f : ℕ → ℕ) (s : Sources) (a : ℕ) (edges : Edges)
    → ((q : ℕ) → a ≤ q → contains s q ≡ false) → changed f s a edges ≡ edges
nothing_changed f s a edges none = grind (arith, nat_tests, common_steps, same_lists, length-changed, get_or-changed)

-- a pending edge that is taken and given back leaves the count as it was
again_same : (n : ℕ) → (0 < n) × (n < 2 ^ 32) → one_more (one_less n) ≡ n
again_same n is = search rules

-- ---- taking and giving an edge of each source of a set, as the definitions say it
pub taken-changed : (s : Sources) (edges : Edges) → taken s edges ≡ changed one_less s 24 edges
unfolding taken
taken-changed s edges = grind (arith, nat_tests, common_steps, same_lists, length-changed, get_or-changed, get_or-map-range_with_len, length-map-range_with_len)

pub more-changed : (s : Sources) (edges : Edges) → with_more_edges edges s ≡ changed one_more s 24 edges
unfolding with_more_edges
more-changed s edges = grind (arith, nat_tests, common_steps, same_lists, length-changed, get_or-changed, get_or-map-range_with_len, length-map-range_with_len)

pub taken_and_given : (s : Sources) (a : ℕ) (edges : Edges) → ((k : ℕ) → k < length edges → contains s (a + k) ≡ true
    → (0 < slice_index edges k) × (slice_index edges k < 2 ^ 32))
    → changed one_more s a (changed one_less s a edges) ≡ edges
taken_and_given s a edges each = grind (arith, nat_tests, common_steps, again_same, same_lists, length-changed, get_or-changed)

-- ---- one source after the other

-- the first n counts are changed, and the others are as before
pub record IsChangedBelow (f : ℕ → ℕ) (n : ℕ) (s : Sources) (old new : Edges) : Type 0 where
  pub lengths : length new ≡ length old
  pub changed_below : (k : ℕ) → k < n
      → slice_index new k ≡ (if contains s (24 + k) then f (slice_index old k) else slice_index old k)
  pub same_from : (k : ℕ) → n ≤ k → slice_index new k ≡ slice_index old k

pub none_changed : (f : ℕ → ℕ) (s : Sources) (old : Edges) → IsChangedBelow f 0 s old old
none_changed f s old = search rules

pub one_changed : (f : ℕ → ℕ) (n : ℕ) (s : Sources) (old new : Edges) (count : ℕ)
    → IsChangedBelow f n s old new → n < length new → contains s (24 + n) ≡ true → count ≡ f (slice_index new n)
    → IsChangedBelow f (n + 1) s old (slice_set new n count)
one_changed f n s old new count so_far within is its = search rules

pub one_left : (f : ℕ → ℕ) (n : ℕ) (s : Sources) (old new : Edges) → IsChangedBelow f n s old new
    → contains s (24 + n) ≡ false → IsChangedBelow f (n + 1) s old new
one_left f n s old new so_far is = search rules

pub all_changed : (f : ℕ → ℕ) (n : ℕ) (s : Sources) (old new : Edges) → length old ≤ n
    → IsChangedBelow f n s old new → new ≡ changed f s 24 old
all_changed f n s old new past all = grind (arith, nat_tests, common_steps, same_lists, length-changed, get_or-changed)

-- a change by one edge less is the taking of an edge
pub less_taken : (s : Sources) (edges new : Edges) → new ≡ changed one_less s 24 edges → new ≡ taken s edges
less_taken s edges new is = is ∙ sym (taken-changed s edges)

-- a change by one edge more is the giving of an edge
pub more_given : (s : Sources) (edges new : Edges) → new ≡ changed one_more s 24 edges → new ≡ with_more_edges edges s
more_given s edges new is = is ∙ sym (more-changed s edges)

pub ruleset changing = (none_changed, one_changed, one_left, all_changed)
