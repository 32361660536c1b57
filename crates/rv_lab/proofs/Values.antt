-- The values that commands which look answer.
use Rattle.std.proofs.Common.{rules, ◌≡◌, ◌∙◌, ℕ, zero, suc, ◌+◌, ◌-◌, ◌<◌, ◌≤◌, Bool, true, false, List, [], ◌∷◌, ◌++◌, cond, drop, length, map, refl, sym, ap, add-one, append-nil, append_assoc, arith, find}
use Rattle.std.specs.Prelude.{Option, Some, None, OnOk, Result, Ok, Err, filter, slice_get, unwrap_or, IfSome, IfNone}
use Rattle.std.specs.Borrow.{Bor}
use Rattle.std.specs.FinSet as set
use Rattle.std.specs.List.{range_with_len, position_or_len}
use Rattle.std.specs.Option.{option_map}
use Rattle.std.proofs.lemmas.List.{drop_all, get_or_past}
use Rattle.std.proofs.lemmas.List.FromFn.{get_or-range_with_len, length-range_with_len}
use Rattle.std.proofs.lemmas.List.Sums.{position_or_len_is}
use Rattle.std.proofs.lemmas.Option.{get_or_from_slice_get, slice_get_within}
use Rattle.std.proofs.Math.Seq.{drop-cons}
use Rattle.rv_asm.specs.Lines.{Listed, HasByteAt}
use Rattle.rv_operands.specs.Operands.{only_of}
use Rattle.rv_why.specs.Repeats.{comes_again}
use Rattle.rv_convention.specs.Profile.{is_in}
use Rattle.rv_convention.proofs.Tallies.{inside, is_inside}
use Rattle.rv_isa.specs.Number.{flag}
use Rattle.rv_pmp.specs.Pmp.{read_register}
use Rattle.rv_csr.specs.Registers.{lines_word, number_of, read, row_at, status_word, table}
use Rattle.rv_csr.specs.declared.mstatus.Mstatus.{Mstatus}
use Rattle.rv_csr.specs.Traps.{next_interrupt}
use Rattle.rv_isa.specs.Names.{csr_names}
use Rattle.rv_bus.specs.Access.{lines_of}
use Rattle.rv_why.proofs.Words.{is_one, most, mstatus_word}
use Rattle.rv_board.specs.declared.event.TrapRecord.{TrapRecord}
use Rattle.rv_board.specs.BoardState.{BoardState, csr_of}
use Rattle.rv_recording.specs.Breaks.{IsNext}
use Rattle.rv_answers.specs.declared.values.Place.{Place}
use Rattle.rv_answers.specs.declared.values.Trap.{Trap}
use Rattle.rv_answers.proofs.Regions.{one_more, next_found}
use Rattle.rv_lab.specs.Answers.{breakpoints, place_of, trap_of, trap_runs}
use Rattle.rv_lab.specs.State.{LabState}
use Rattle.rv_lab.specs.Support.Rows.{first_pending}
use Rattle.rv_lab.specs.Lines.{line_at}

-- ---- the first number of a range that passes a test

first_or : (b : Bool) (x : ℕ) (o r : Option ℕ) → (b ≡ true → Some x ≡ r) → (b ≡ false → o ≡ r) → cond b (Some x) o ≡ r
first_or b x o r t f = search (rules, arith)

later : (p : ℕ → Bool) (s n : ℕ) → p s ≡ false → p n ≡ true → s ≤ n → s + 1 ≤ n
later p s n f t h = grind arith

found : (p : ℕ → Bool) (n s k : ℕ) → s ≤ n → n < s + k → p n ≡ true → ((m : ℕ) → s ≤ m → p m ≡ true → m ≡ n)
    → find p (range_with_len s k) ≡ Some n
found p n s zero low high is only = search (rules, arith)
found p n s (suc k) low high is only = search (rules, arith, first_or, later, (found p n (s + 1) k))

none : (p : ℕ → Bool) (s k : ℕ) → ((m : ℕ) → s ≤ m → p m ≡ true → ⊥) → find p (range_with_len s k) ≡ None
none p s zero never = refl
none p s (suc k) never = search (rules, arith, first_or, never, (none p (s + 1) k))

pub ends_at : (p : ℕ → Bool) (n i : ℕ) → i ≤ n → ((k : ℕ) → k < i → p k ≡ false) → (i < n → p i ≡ true)
    → position_or_len p (range_with_len 0 n) ≡ i
ends_at p n i below none is = position_or_len_is p (range_with_len 0 n) i 0 (simp length-range_with_len below)
    (λ k h. ap p (get_or-range_with_len 0 n k 0 (omega (arith, h, below)) ∙ omega arith) ∙ none k h)
    (λ h. let l : i < n = simp length-range_with_len at h in
    ap p (get_or-range_with_len 0 n i 0 l ∙ omega arith) ∙ is l)

-- ---- the line of an address

is_listed : (l : Listed) (a n : ℕ) → HasByteAt l a n → n < 1 + (length l.addresses - 1)
is_listed l a n h = grind (arith, get_or_past)

pub line_is : (l : Listed) (a : ℕ) (result : Option ℕ) → IfSome result (HasByteAt l a)
    → IfNone result ((m : ℕ) → HasByteAt l a m → ⊥)
    → IfSome result (λ n. (m : ℕ) → HasByteAt l a m → m ≡ n) → result ≡ line_at l a
unfolding line_at
line_is l a (Some n) here never only =
    sym (found (λ m. is_in l m a) n 1 (length l.addresses - 1) here.0 (is_listed l a n here) (is_inside l a n here)
    (λ m h t. only m (inside l a m h t)))
line_is l a None here never only =
    sym (none (λ m. is_in l m a) 1 (length l.addresses - 1) (λ m h t. never m (inside l a m h t)))

-- ---- control registers

pub named : (r : Option (Bor (List ℕ))) (ws : List (List ℕ)) (name none : Bor (List ℕ))
    → option_map (λ w. w.now) r ≡ only_of ws → name ≡ unwrap_or r none → none.now ≡ []
    → name.now ≡ unwrap_or (only_of ws) []
named r ws name none e f g = search (rules, arith)

mie_is : (s : Mstatus) → flag (status_word s) 3 ≡ s.mie
unfolding status_word
mie_is s = search (rules, arith, most, is_one)

module _ (b : BoardState) where
  mie_word : csr_of b 772 ≡ Some (lines_word b.machine.csrs.mie)
  unfolding read read_register row_at table number_of csr_names
  mie_word = refl

  mip_word : csr_of b 836 ≡ Some (lines_word (lines_of b.machine.bus))
  unfolding read read_register row_at table number_of csr_names
  mip_word = refl

-- the interrupt that is taken next, by the words of the control registers
pub next_is : (b : BoardState) (r : Option ℕ) → r ≡ first_pending b
    → r ≡ next_interrupt b.machine.csrs b.machine.mode (lines_of b.machine.bus)
unfolding first_pending next_interrupt
next_is b r e = search (rules, arith, mstatus_word, mie_is, mie_word, mip_word)

-- ---- breakpoints

abbrev is_break : LabState → ℕ → Bool
is_break l a = set.contains l.recording.session.breakpoints.addresses a

abbrev pub breaks_below : LabState → ℕ → List Place
breaks_below l n = map (place_of l) (filter (is_break l) (range_with_len 0 n))

module _ (l : LabState) where
  skipped : (from n : ℕ) → ((i : ℕ) → from ≤ i → i < from + n → is_break l i ≡ false)
      → breaks_below l (from + n) ≡ breaks_below l from
  skipped from zero none = let same : from + 0 ≡ from = omega arith in ap (breaks_below l) same
  skipped from (suc n) none =
      let last : from + suc n ≡ from + n + 1 = omega arith in
      let not_last : is_break l (from + n) ≡ false = none (from + n) (omega arith) (omega arith) in
      rw (last, one_more (place_of l) (is_break l) 0 (from + n) (from + n) (omega arith), not_last, append-nil)
      (skipped from n (λ i f h. none i f (omega (arith, h))))

  skipped_to : (from to : ℕ) → from ≤ to → ((i : ℕ) → from ≤ i → i < to → is_break l i ≡ false)
      → breaks_below l to ≡ breaks_below l from
  skipped_to from to h none =
      let same : to ≡ from + (to - from) = omega (arith, h) in
      ap (breaks_below l) same ∙ skipped from (to - from) (λ i f g. none i f (omega (arith, g, same)))

  pub next_break : (from address : ℕ) (r : Option ℕ) (xs ys : List Place) → r ≡ Some address
      → IsNext l.recording.session.breakpoints.addresses from r → xs ≡ breaks_below l from
      → ys ≡ xs ++ place_of l address ∷ [] → ys ≡ breaks_below l (address + 1)
  next_break from address r xs ys e is h g = search (rules, arith, skipped_to, next_found)

  pub last_break : (from to : ℕ) (r : Option ℕ) (xs : List Place) → r ≡ None → from ≤ to
      → IsNext l.recording.session.breakpoints.addresses from r → xs ≡ breaks_below l from → xs ≡ breaks_below l to
  last_break from to r xs e h is o = search (rules, arith, skipped_to)

  pub all_breaks : (xs : List Place) → xs ≡ breaks_below l 4294967296 → xs ≡ breakpoints l
  unfolding breakpoints
  all_breaks xs h = h

-- ---- traps

-- those from one on
more : (ts : List TrapRecord) (i : ℕ) (t : TrapRecord) → Some t ≡ slice_get ts i → drop i ts ≡ t ∷ drop (suc i) ts
more ts i t e = rw (drop-cons ts i t (slice_get_within ts i t (sym e)), get_or_from_slice_get ts i t t (sym e)) refl

front : (ts : List TrapRecord) (i : ℕ) → slice_get (drop i ts) 0 ≡ slice_get ts i
front [] zero = refl
front [] (suc i) = refl
front (t ∷ ts) zero = refl
front (t ∷ ts) (suc i) = front ts i

pub runs_end : (l : LabState) (ts : List TrapRecord) (i n : ℕ) (xs : List Trap) → length ts ≤ i
    → xs ≡ xs ++ trap_runs l n (drop i ts)
unfolding trap_runs
runs_end l ts i n xs h = rw (drop_all i ts h) (sym (append-nil xs))

pub runs_none : (l : LabState) (ts : List TrapRecord) (i n : ℕ) (xs : List Trap) → None ≡ slice_get ts i
    → xs ≡ xs ++ trap_runs l n (drop i ts)
unfolding trap_runs
runs_none l [] i n xs e = search (rules, arith, drop_all)
runs_none l (t ∷ ts) zero n xs e = absurd cc
runs_none l (t ∷ ts) (suc i) n xs e = runs_none l ts i n xs e

by_next : (l : LabState) (t : TrapRecord) (ts rest : List TrapRecord) (n i : ℕ) (b : Bool) → rest ≡ drop (suc i) ts
    → comes_again t (slice_get ts (i + 1)) ≡ b
    → trap_runs l n (t ∷ rest) ≡ cond b (trap_runs l (n + 1) rest) (trap_of l t (n + 1) ∷ trap_runs l 0 rest)
unfolding trap_runs
by_next l t ts rest n i b r e = search (rules, arith, front)

pub runs_again : (l : LabState) (ts : List TrapRecord) (i n : ℕ) (t : TrapRecord) (xs ys : List Trap)
    → Some t ≡ slice_get ts i → comes_again t (slice_get ts (i + 1)) ≡ true
    → ys ≡ xs ++ trap_runs l (n + 1) (drop (i + 1) ts) → ys ≡ xs ++ trap_runs l n (drop i ts)
runs_again l ts i n t xs ys e again h =
    rw (h, add-one i, more ts i t e, by_next l t ts (drop (suc i) ts) n i true refl again)

pub runs_other : {A E : Type 0} (r : Result A E) (l : LabState) (ts : List TrapRecord) (i n : ℕ) (t : TrapRecord)
    (v : Trap) (xs ys zs : List Trap) → Some t ≡ slice_get ts i → comes_again t (slice_get ts (i + 1)) ≡ false
    → v ≡ trap_of l t (n + 1) → ys ≡ xs ++ v ∷ [] → OnOk r (zs ≡ ys ++ trap_runs l 0 (drop (i + 1) ts))
    → OnOk r (zs ≡ xs ++ trap_runs l n (drop i ts))
runs_other (Ok x) l ts i n t v xs ys zs e other is h g =
    let on = by_next l t ts (drop (suc i) ts) n i false refl other in
    rw (g, h, is, append_assoc, add-one i, more ts i t e, on)
runs_other (Err why) l ts i n t v xs ys zs e other is h g = tt
