-- Lists of addresses, seen as sets; the filter of their flags, and the room for more of them.
use Rattle.std.proofs.Common.{rules, ◌≡◌, ◌∙◌, ℕ, ◌-◌, ◌<◌, Bool, true, false, cond, List, [], ◌∷◌, length, get_or, set, refl, arith, true≢false}
use Rattle.std.specs.Prelude.{nat_eq, ◌==◌, if◌then◌else◌}
use Rattle.std.specs.List.{list_any}
use Rattle.std.proofs.lemmas.Bool.{cases_eq, eqb-true, cond-false, cond-true, le-ltb, lt-ltb}
use Rattle.std.proofs.lemmas.List.{get_or-set_same, get_or-set_other}
use Rattle.std.specs.Ordering.{nat_cmp}
use Rattle.std.specs.Cmp.{nat_cmp_total, unsigned_tied, nat_eq_equiv}
use Rattle.std.specs.FinSet.{FinSet, empty, from_list, insert, remove, contains, same_set, contains-empty, contains-insert, contains-remove, nat_cmp-IsAntisymmetric, len-insert, len-remove}
use Rattle.rv_monitor.specs.Breaks.{Breaks, room_after}
use Rattle.rv_monitor.specs.declared.filter.BreakpointFilter.{BreakpointFilter}
use Rattle.rv_monitor.specs.Support.Filter.{may_contain, MayContainAll}

abbrev is_in : List ℕ → ℕ → Bool
is_in xs q = list_any (nat_eq q) xs

-- the members of the set are the elements of the list
pub has : (xs : List ℕ) (q : ℕ) → contains (from_list {R = nat_cmp} xs) q ≡ is_in xs q
has [] q = contains-empty nat_cmp q
has (x ∷ xs) q = search (rules, arith, contains-insert, nat_cmp_total, unsigned_tied, has xs q)

-- a list with one more address is the set with one more
pub inserted : (xs ys : List ℕ) (x : ℕ) → ((q : ℕ) → is_in ys q ≡ cond (nat_eq x q) true (is_in xs q)) →
    from_list {R = nat_cmp} ys ≡ insert (from_list xs) x
inserted xs ys x each = same_set nat_cmp_total nat_cmp-IsAntisymmetric _ _ (λ q.
    let tied = unsigned_tied q x ∙ nat_eq_equiv.symm q x in
    search (rules, arith, has, each, contains-insert nat_cmp_total, tied))

-- to insert an address that is there already changes nothing
pub there : (s : FinSet nat_cmp) (x : ℕ) → contains s x ≡ true → s ≡ insert s x
there s x h = same_set nat_cmp_total nat_cmp-IsAntisymmetric _ _ (λ q. let same = nat_eq_equiv.symm q x in
    search (rules, arith, contains-insert, nat_cmp_total, unsigned_tied, same, eqb-true))

-- a list with one address less is the set with one less
pub removed : (xs ys : List ℕ) (x : ℕ) → ((q : ℕ) → is_in ys q ≡ cond (nat_eq x q) false (is_in xs q)) →
    from_list {R = nat_cmp} ys ≡ remove (from_list xs) x
removed xs ys x each = same_set nat_cmp_total nat_cmp-IsAntisymmetric _ _ (λ q.
    let tied = unsigned_tied q x ∙ nat_eq_equiv.symm q x in
    search (rules, arith, has, each, contains-remove nat_cmp_total, tied))

-- the set of the empty list is empty
pub none_listed : (xs : List ℕ) → length xs ≡ 0 → empty {R = nat_cmp} ≡ from_list {R = nat_cmp} xs
none_listed [] e = refl
none_listed (x ∷ xs) e = absurd (omega arith)

-- the empty set has no member
pub no_member : (q : ℕ) → false ≡ contains (empty {R = nat_cmp}) q
no_member q = search (rules, arith, contains-empty)

-- ---- the filter after an address is added or removed

-- a flag that is on stays on when another is turned on
pub flag_stays : (flags : List Bool) (i j : ℕ) → i < length flags → get_or flags j false ≡ true →
    get_or (set flags i true) j false ≡ true
flag_stays flags i j lt h = grind (arith, get_or-set_same, get_or-set_other, cases_eq j i)

-- the filter fits the list with one address less
pub filter_after_remove : (old new : List ℕ) (x : ℕ) (filter : BreakpointFilter) → MayContainAll old filter
    → ((q : ℕ) → list_any (nat_eq q) new ≡ cond (nat_eq x q) false (list_any (nat_eq q) old)) → MayContainAll new filter
filter_after_remove old new x filter was each q h = search (rules, arith, was, each, true≢false)

-- an address whose flag is off is not in the list
pub none_outside : (addresses : List ℕ) (filter : BreakpointFilter) (x : ℕ) → MayContainAll addresses filter →
    may_contain filter x ≡ false → list_any (nat_eq x) addresses ≡ false
none_outside addresses filter x was none = search (rules, arith, was x, true≢false)

-- ---- the room after an address is added or removed

-- an address that was there already takes no place
pub one_there : (b : Breaks) (x : ℕ) → contains b.addresses x ≡ true → b.room ≡ room_after b (insert b.addresses x)
unfolding room_after
one_there b x h = search (rules, arith, len-insert, nat_cmp_total, cond-false, le-ltb)

-- another takes one, of nine that were made where there was none
pub one_more : (b : Breaks) (x : ℕ) → contains b.addresses x ≡ false
    → room_after b (insert b.addresses x) ≡ (if b.room == 0 then 9 else b.room) - 1
unfolding room_after
one_more b x h = search (rules, arith, len-insert, nat_cmp_total, cond-true, lt-ltb)

-- and to remove one gives none back
pub one_less : (b : Breaks) (x : ℕ) → room_after b (remove b.addresses x) ≡ b.room
unfolding room_after
one_less b x = search (rules, arith, len-remove, nat_cmp_total, cond-false, le-ltb)
