-- Inputs that are given by hand, and states that a board comes to by its inputs and its steps: what calls leave is one.
use Rattle.std.proofs.Common.{rules, ◌≡◌, ◌∙◌, ℕ, zero, suc, ◌+◌, ◌<◌, ◌≤◌, Bool, true, false, List, [], ◌∷◌, ◌++◌, length, drop, refl, sym, ap, subst, arith, ◌-◌, inl, inr, add-one}
use Rattle.std.specs.Prelude.{◌⊎◌, nat_le, filter, None, IsSome}
use Rattle.std.proofs.lemmas.Bool.{and_from, and_parts, eq-eqb, le-leb, le-ltb, lt-ltb, ltb-false, ltb-true, ne_eqb, cases_lt, eqb-true, false≢true}
use Rattle.std.proofs.lemmas.List.{map-append}
use Rattle.rv_board.specs.Support.State.{BoardState, halted_of}
use Rattle.rv_board.specs.Move.{run}
use Rattle.rv_board.proofs.Runs.{run_append}
use Rattle.rv_timeline.specs.declared.input.Input.{Input}
use Rattle.rv_timeline.specs.declared.input.TimedInput.{TimedInput}
use Rattle.rv_timeline.specs.Timed.{never_falls, inserted}
use Rattle.rv_timeline.proofs.Inserted.{rises}
use Rattle.rv_monitor.specs.Events.{inputs_at, events_of}
use Rattle.rv_monitor.specs.Support.TimedCalls.{IsRefused}
use Rattle.rv_monitor.specs.State.{Addresses, TimedState, IsInTime, rest, count_before, begun, after, with_due, given}
use Rattle.rv_monitor.specs.Laws.{IsReached}
use Rattle.rv_monitor.proofs.Times.{from, of, from_earlier, tail_from, tail_rises, all_from, drop_from, late_from, late_count, none_of, none_before, from_first, late_of, count_most}
use Rattle.rv_monitor.proofs.Steps.{inputs_late, none_due, same, after_none, due_after, again, halted_due, in_time_due, in_time_after, after_more}
use Rattle.rv_monitor.specs.Stops.{stop_after}
use Rattle.rv_monitor.proofs.Stopping.{running, no_reason}
use Rattle.std.specs.FinSet as set
use Rattle.rv_monitor.specs.Resumed.{resumed}
use Rattle.rv_monitor.proofs.Sets.{no_member}

-- ---- a list with one input more

left_out : (p : TimedInput → Bool) (xs : List TimedInput) (x : TimedInput) → p x ≡ false
    → filter p (inserted xs x) ≡ filter p xs
unfolding inserted
left_out p [] x out = rw out refl
left_out p (y ∷ ys) x out = search (rules, arith, left_out p ys x out)

length_inserted : (xs : List TimedInput) (x : TimedInput) → length (inserted xs x) ≡ length xs + 1
unfolding inserted
length_inserted [] x = omega arith
length_inserted (y ∷ ys) x = search (rules, arith, length_inserted ys x)

inserted_from : (t : ℕ) (xs : List TimedInput) (x : TimedInput) (n : ℕ) → t ≤ x.step → never_falls xs ≡ true
    → from t (drop n xs) ≡ true → from t (drop n (inserted xs x)) ≡ true
unfolding inserted
inserted_from t [] x zero k h all = and_from (nat_le t x.step) true (le-leb t x.step k) refl
inserted_from t [] x (suc zero) k h all = refl
inserted_from t [] x (suc (suc n)) k h all = refl
inserted_from t (y ∷ ys) x zero k h all = search (rules, arith, and_from, le-leb, and_parts, from, tail_rises, tail_from, inserted_from t ys x zero k)
inserted_from t (y ∷ ys) x (suc n) k h all = search (rules, arith, ltb-true, drop_from, all_from, tail_rises, inserted_from t ys x n k)

-- the list with the input is in time as well
pub inserted_in_time : (b : BoardState) (xs : List TimedInput) (place t : ℕ) (x : TimedInput) → t ≤ x.step
    → IsInTime (record { board = b; inputs = xs; place = place; taken = t })
    → IsInTime (record { board = b; inputs = inserted xs x; place = place; taken = t })
inserted_in_time b xs place t x at h =
    let ahead = inserted_from t xs x place at h.rising h.ahead in search (rules, arith, length_inserted xs x, rises)

-- ---- the inputs of a step, with one more

module _ (t : ℕ) (input : Input) where
  abbrev by_hand : TimedInput
  by_hand = record { step = t; input = input }

  -- it stands after the others of its step, and before all later ones
  here : (xs : List TimedInput) → never_falls xs ≡ true
      → drop (count_before (t + 1) xs) (inserted xs by_hand) ≡ by_hand ∷ drop (count_before (t + 1) xs) xs
  unfolding inserted
  here [] h = refl
  here (y ∷ ys) h = elim (cases_lt t y.step) [
    | inl later ↦ rw (none_before (t + 1) (y ∷ ys) (all_from (t + 1) y ys h (omega arith)), lt-ltb t y.step later) refl
    | inr now ↦ search (rules, arith, le-ltb, lt-ltb, here ys (tail_rises y ys h))
  ]

  last : (xs : List TimedInput) → never_falls xs ≡ true → of t (inserted xs by_hand) ≡ of t xs ++ by_hand ∷ []
  unfolding inserted
  last [] h = rw (eq-eqb t t refl) refl
  last (y ∷ ys) h = search (rules, arith, ltb-true, none_of, all_from, eq-eqb, tail_rises, last ys (tail_rises y ys h))

  count_more : (xs : List TimedInput) → count_before (t + 1) (inserted xs by_hand) ≡ count_before (t + 1) xs + 1
  unfolding inserted
  count_more [] = rw (lt-ltb t (t + 1) (omega arith)) refl
  count_more (y ∷ ys) = search (rules, arith, lt-ltb, ltb-false, count_more ys)

  module _ (xs : List TimedInput) (rising : never_falls xs ≡ true) where
    pub events_before : (k : ℕ) → k ≤ t → events_of (inserted xs by_hand) 0 k ≡ events_of xs 0 k
    unfolding events_of inputs_at
    events_before zero h = refl
    events_before (suc k) h = search (rules, arith, left_out, ne_eqb, same, events_before k)

-- ---- states that are reached

-- a board with timed inputs after its first steps, by its fields
module _ (board : BoardState) (xs : List TimedInput) where
  abbrev after_steps : ℕ → TimedState
  after_steps k = record { board = run board (events_of xs 0 k); inputs = xs; place = count_before k xs; taken = k }

  abbrev after_inputs : ℕ → TimedState
  after_inputs k = record {
    board = run (run board (events_of xs 0 k)) (inputs_at xs k);
    inputs = xs;
    place = count_before (k + 1) xs;
    taken = k;
  }

  pub after_begun : (k : ℕ) → after (begun board xs) k ≡ after_steps k
  unfolding after
  after_begun k = search (rules, arith, same)

  module _ (rising : never_falls xs ≡ true) (k : ℕ) where
    pub due_begun : with_due (after (begun board xs) k) ≡ after_inputs k
    unfolding with_due
    due_begun = search (rules, arith, after_begun, same, inputs_late, late_count)

    -- inputs are given once
    pub due_twice : with_due (with_due (after (begun board xs) k)) ≡ with_due (after (begun board xs) k)
    unfolding with_due
    due_twice = search (rules, arith, due_begun, none_before, late_from, same, none_due)

-- ---- an input by hand

module _ (board : BoardState) (xs : List TimedInput) (rising : never_falls xs ≡ true) (t : ℕ) (input : Input) where
  abbrev longer : List TimedInput
  longer = inserted xs (by_hand t input)

  with_longer : TimedState → TimedState
  with_longer s = record s { inputs = longer }

  -- before the other inputs of its step
  steps_before : (k : ℕ) → k ≤ t → with_longer (after_steps board xs k) ≡ after_steps board longer k
  unfolding with_longer
  steps_before k h = search (rules, arith, same, events_before, left_out, le-ltb)

  running_before : (k : ℕ) → k ≤ t
      → halted_of (after (begun board longer) k).board ≡ halted_of (after (begun board xs) k).board
  unfolding with_longer
  running_before k h = search (rules, arith, after_begun, steps_before)

-- a state by its inputs and steps
pub reached_steps : (board : BoardState) (xs : List TimedInput) (k : ℕ) (s : TimedState)
    → never_falls xs ≡ true → s ≡ after (begun board xs) k
    → ((i : ℕ) → i < k → halted_of (after (begun board xs) i).board ≡ None) → IsReached board s
unfolding after
reached_steps board xs k s h e goes = search (rules, arith)

pub reached_due : (board : BoardState) (xs : List TimedInput) (k : ℕ) (s : TimedState)
    → never_falls xs ≡ true → s ≡ with_due (after (begun board xs) k)
    → ((i : ℕ) → i < k → halted_of (after (begun board xs) i).board ≡ None) → IsReached board s
unfolding after with_due
reached_due board xs k s h e goes = search (rules, arith)

pub given_listed : (board : BoardState) (s : TimedState) (input : Input) → never_falls s.inputs ≡ true
    → (s ≡ after (begun board s.inputs) s.taken) ⊎ (s ≡ with_due (after (begun board s.inputs) s.taken))
    → given s input ≡ with_due (after (begun board (inserted s.inputs (by_hand s.taken input))) s.taken)
unfolding with_longer with_due inputs_at
given_listed board s input h is = search (rules, arith, after_begun, steps_before, due_begun, same, here, eq-eqb, none_of, late_from, run_append, last, map-append, events_before, none_before, lt-ltb, count_more, rises)

pub given_stands : (board : BoardState) (s : TimedState) (input : Input) → IsReached board s
    → IsReached board (given s input)
unfolding never_falls with_due
given_stands board s input r = search (rules, arith, reached_due, rises, given_listed, running_before)

-- ---- the calls that give an input, take a step and resume, by their fields

pub grown_in_time : (b : BoardState) (xs ys : List TimedInput) (place t : ℕ) (x : TimedInput)
    → ys ≡ inserted xs x → t ≤ x.step → IsInTime (record { board = b; inputs = xs; place = place; taken = t })
    → IsInTime (record { board = b; inputs = ys; place = place; taken = t }) × (from t (drop place ys) ≡ true)
grown_in_time b xs ys place t x is le h =
    let grown = inserted_in_time b xs place t x le h in rw is (grown, grown.ahead)

pub stepped_in_time : (b c : BoardState) (xs : List TimedInput) (place t later : ℕ) (s : TimedState)
    → record { board = b; inputs = xs; place = place; taken = t } ≡ s
    → IsInTime (record { board = b; inputs = xs; place = place; taken = t }) → from later (rest s) ≡ true
    → s.taken < later → IsInTime (record { board = c; inputs = xs; place = place; taken = t + 1 })
stepped_in_time b c xs place t later s e h quiet after_now =
    let less : t < later = rw (← e) at after_now in
    let left = from_earlier (t + 1) later (drop place xs) (rw (← e) at quiet) (omega arith) in search (rules, arith)

pub restored : (b c : BoardState) (xs ys : List TimedInput) (place t n : ℕ) → ys ≡ xs
    → IsInTime (record { board = b; inputs = xs; place = place; taken = t }) × (from n (drop place xs) ≡ true)
    → IsInTime (record { board = c; inputs = ys; place = place; taken = t }) × (from n (drop place ys) ≡ true)
restored b c xs ys place t n e h = search (rules, arith, from)

pub restored_is : (b c : BoardState) (xs ys : List TimedInput) (place t : ℕ) (s : TimedState)
    → record { board = b; inputs = xs; place = place; taken = t } ≡ s → c ≡ b → ys ≡ xs
    → record { board = c; inputs = ys; place = place; taken = t } ≡ s
restored_is b c xs ys place t s e f g = rw (f, g) e

pub same_inputs : (a : Addresses) (most : ℕ) (old new : TimedState) → IsRefused a most old new → new.inputs ≡ old.inputs
unfolding after with_due
same_inputs a most old new r = ap (λ u. u.inputs) r.state

-- ---- more steps

begun_in_time : (board : BoardState) (xs : List TimedInput) → never_falls xs ≡ true → IsInTime (begun board xs)
begun_in_time board xs h = search (rules, arith, h, from_first)

-- the board before its first step
pub begun_stands : (board : BoardState) (xs : List TimedInput) → never_falls xs ≡ true
    → IsReached board (begun board xs)
begun_stands board xs h = search (rules, arith, reached_steps, after_none, begun_in_time)

pub in_time : (board : BoardState) (s : TimedState) → IsReached board s → IsInTime s
in_time board s r = search (rules, arith, in_time_after, begun_in_time, in_time_due)

module _ (board : BoardState) (s : TimedState) (r : IsReached board s) where
  abbrev first : TimedState
  first = begun board s.inputs

  -- with the inputs of the next step it is what the steps and these inputs make
  due_is : with_due s ≡ with_due (after first s.taken)
  due_is = search (rules, arith, due_twice)

  step_is : after s 1 ≡ after first (s.taken + 1)
  step_is = sym (due_after s 1 r.rising (omega arith)) ∙ (ap (λ u. after u 1) due_is
      ∙ again first (begun_in_time board s.inputs r.rising) s.taken 1 (omega arith))

  halted_is : halted_of (after first s.taken).board ≡ halted_of s.board
  halted_is = sym (halted_due (after first s.taken)) ∙ (ap (λ u. halted_of u.board) (sym due_is) ∙ halted_due s)

  pub step_stands : halted_of s.board ≡ None → IsReached board (after s 1)
  step_stands halt = reached_steps board s.inputs (s.taken + 1) (after s 1) r.rising step_is
      (λ i l. search (rules, arith, cases_lt, halted_is))

  pub due_stands : IsReached board (with_due s)
  due_stands = reached_due board s.inputs s.taken (with_due s) r.rising due_is r.running

-- ---- what calls leave

module _ (a : Addresses) (board : BoardState) (s : TimedState) (r : IsReached board s) where
  pub stopped_stands : (n : ℕ) → ((i : ℕ) → i < n → stop_after a (after s i).board i ≡ None)
      → IsReached board (after s n)
  stopped_stands zero going = subst (IsReached board) (sym (after_none s (in_time board s r))) r
  stopped_stands (suc n) going = subst (IsReached board) (after_more s n 1 r.rising ∙ ap (after s) (add-one n))
      (step_stands board (after s n) (stopped_stands n (λ i l. going i (omega arith)))
      (running a (after s n).board n (going n (omega arith))))

  pub refused_stands : (n : ℕ) → ((i : ℕ) → i < n → stop_after a (after s i).board i ≡ None)
      → IsReached board (with_due (after s n))
  refused_stands n going = due_stands board (after s n) (stopped_stands n going)

-- ---- a board that goes on is in time

pub resumed_in_time : (b : BoardState) (xs : List TimedInput) (t place : ℕ) → never_falls xs ≡ true
    → place ≡ count_before t xs
    → IsInTime (record { board = b; inputs = xs; place = place; taken = t }) × (from 0 (drop place xs) ≡ true)
resumed_in_time b xs t place rising e = rw e (search (rules, arith, count_most, late_from, from_first))

-- ---- where no input of the next step was given, the board is what the steps taken left

none_counted : (t : ℕ) (xs : List TimedInput) → count_before (t + 1) xs ≡ 0 → of t xs ≡ []
none_counted t [] h = refl
none_counted t (x ∷ xs) h = search (rules, arith, lt-ltb, eqb-true, none_counted t xs)

none_at : (t : ℕ) (xs : List TimedInput) → never_falls xs ≡ true → count_before (t + 1) xs ≡ count_before t xs
    → inputs_at xs t ≡ []
unfolding inputs_at
none_at t xs rising e =
    let none : count_before (t + 1) (drop (count_before t xs) xs) ≡ 0 =
    omega (arith, late_count t (t + 1) (omega arith) xs rising, e) in
    rw (← late_of t t (omega arith) xs rising, none_counted t _ none) refl

module _ (first : BoardState) (s : TimedState) (r : IsReached first s) where
  abbrev from_reset_on : TimedState
  from_reset_on = begun first s.inputs

  pub left_by_steps : s.place ≡ count_before s.taken s.inputs → s.board ≡ run first (events_of s.inputs 0 s.taken)
  left_by_steps h = search (rules, arith, after_begun, due_begun, none_at)

  -- ---- the steps that are left are taken again

  module _ (b : BoardState) (k n : ℕ) (new : TimedState) (h : b ≡ run first (events_of s.inputs 0 k))
      (below : k ≤ n) (within : n ≤ s.taken) (count : ℕ) (most : count ≤ n - k)
      (least : count < n - k → IsSome (stop_after set.empty new.board count))
      (state : new ≡ after (resumed b s.inputs k) count) where
    resumed_is : resumed b s.inputs k ≡ after from_reset_on k
    resumed_is = search (rules, arith, after_begun)

    pub resumed_back : new ≡ after from_reset_on n
    resumed_back = search (rules, arith, resumed_is, after_more, no_reason, no_member, false≢true, cases_lt)
