-- The entries that match addresses, one after another.
use Rattle.std.proofs.Common.{◌≡◌, ℕ, ◌+◌, ◌<◌, ◌≤◌, true, false, List, [], ◌∷◌, ◌++◌, length, take, drop, get_or, refl, ap, arith, append_assoc, append-nil, length-append}
use Rattle.std.proofs.lemmas.List.{take_more_set, drop_all, drop_more}
use Rattle.std.proofs.Math.ListN.{set}
use Rattle.rv_pmp.specs.declared.active_entries.ActiveEntry.{ActiveEntry}
use Rattle.rv_pmp.specs.declared.entry.Entry.{Entry}
use Rattle.rv_pmp.specs.Support.ActiveEntries.{is_matching, active_of, actives_from}

-- one more entry, where there is room
pub take_push : (items : List ActiveEntry) (count : ℕ) (a : ActiveEntry) → count < length items
    → take (count + 1) (set items count a) ≡ take count items ++ a ∷ []
take_push items count a h = take_more_set items count a h

-- what is selected of the entries before one, and what is left to select
pub record IsSelected (es : List Entry) (lower : ℕ) (xs : List ActiveEntry) (i : ℕ) : Type 0 where
  pub room : length xs ≤ i
  pub done : xs ++ actives_from lower (drop i es) ≡ actives_from 0 es

-- the next entry matches addresses, or it doesn't
pub one_more : (lower : ℕ) (es : List Entry) (xs ys : List ActiveEntry) (i : ℕ) (e : Entry) (a : ActiveEntry)
    → i < length es → IsSelected es lower xs i → is_matching (get_or es i e).matching ≡ true
    → a ≡ active_of lower (get_or es i e) → ys ≡ xs ++ a ∷ [] → IsSelected es (get_or es i e).address ys (i + 1)
unfolding actives_from
one_more lower es xs ys i e a h so on is more = record {
  room = omega (arith, so.room, ap length more, length-append xs (a ∷ []));
  done = rw (more, is, ← so.done, drop_more es i e h, on, append_assoc) refl;
}

pub none_more : (lower : ℕ) (es : List Entry) (xs ys : List ActiveEntry) (i : ℕ) (e : Entry) → i < length es
    → IsSelected es lower xs i → is_matching (get_or es i e).matching ≡ false → ys ≡ xs
    → IsSelected es (get_or es i e).address ys (i + 1)
unfolding actives_from
none_more lower es xs ys i e h so off same = record {
  room = omega (arith, so.room, ap length same);
  done = rw (same, ← so.done, drop_more es i e h, off) refl;
}

pub no_more : (lower : ℕ) (es : List Entry) (xs : List ActiveEntry) (i : ℕ) → length es ≤ i
    → xs ++ actives_from lower (drop i es) ≡ xs
unfolding actives_from
no_more lower es xs i h = rw (drop_all i es h, append-nil) refl
