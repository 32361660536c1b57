-- The sources above the threshold that the controller keeps, and the level of the external line by them.
use Rattle.std.proofs.Common.{rules, ◌≡◌, ◌≢◌, ℕ, Bool, true, false, replicate, ap, sym, ◌∙◌, inl, inr}
use Rattle.std.specs.Prelude.{◌&&◌, nat_lt, slice_index}
use Rattle.std.specs.FinSet.{contains, intersection, empty, contains-empty, contains-intersection}
use Rattle.std.specs.Ordering.{nat_cmp}
use Rattle.std.specs.Cmp.{nat_cmp_total}
use Rattle.std.proofs.lemmas.Bool.{cases_lt}
use Rattle.std.proofs.lemmas.List.{get_or-replicate, get_or_past}
use Rattle.rv_plic.specs.Sources.{Sources}
use Rattle.rv_plic.specs.Gateways.{PlicState}
use Rattle.rv_plic.specs.Plic.{is_notified}
use Rattle.rv_plic.specs.Support.Best.{is_waiting}
use Rattle.rv_plic.specs.Support.AboveThreshold.{is_above, sources_above}
use Rattle.rv_plic.proofs.Those.{any_none, contains-those, is_source, none_any, none_pass}
use Rattle.rv_plic.proofs.Words.{same_sources}

-- at reset no source is above the threshold
none_at : (q : ℕ) → is_above (replicate 32 0) 0 q ≡ false
none_at q = elim (cases_lt q 32) [
  | inl low ↦ search (rules, get_or-replicate)
  | inr high ↦ search (rules, get_or_past)
]

pub none_above : (s : Sources) → s ≡ empty → sources_above (replicate 32 0) 0 ≡ s
unfolding sources_above
none_above s none = search (rules, none_pass, none_at)

-- ---- the external line
abbrev notifies : PlicState → ℕ → Bool
notifies plic s = is_waiting plic s && nat_lt plic.threshold (slice_index plic.priorities s)

in_notified : (plic : PlicState) (above : Sources) (q : ℕ) → sources_above plic.priorities plic.threshold ≡ above
    → contains (intersection (intersection plic.pending plic.enabled) above) q ≡ (notifies plic q && is_source q)
unfolding sources_above
in_notified plic above q is = search (rules, contains-intersection, nat_cmp_total, contains-those)

pub none_notified : (plic : PlicState) (above : Sources) → sources_above plic.priorities plic.threshold ≡ above
    → intersection (intersection plic.pending plic.enabled) above ≡ empty → is_notified plic ≡ false
unfolding is_notified
none_notified plic above is none = none_any (notifies plic)
    (λ q. sym (in_notified plic above q is) ∙ ap (λ s. contains s q) none ∙ contains-empty nat_cmp q)

some_other : (plic : PlicState) (above : Sources) → sources_above plic.priorities plic.threshold ≡ above
    → is_notified plic ≡ false → intersection (intersection plic.pending plic.enabled) above ≡ empty
unfolding is_notified
some_other plic above is quiet = same_sources _ _
    (λ q. in_notified plic above q is ∙ any_none (notifies plic) quiet q ∙ sym (contains-empty nat_cmp q))

pub some_notified : (plic : PlicState) (above : Sources) → sources_above plic.priorities plic.threshold ≡ above
    → intersection (intersection plic.pending plic.enabled) above ≢ empty → is_notified plic ≡ true
some_notified plic above is some = search (rules, some_other)
