-- Steps with the inputs of their times.
use Rattle.std.proofs.Common.{rules, ◌≡◌, ◌∙◌, ℕ, zero, suc, ◌+◌, ◌-◌, ◌<◌, ◌≤◌, true, false, List, [], ◌∷◌, ◌++◌, length, get_or, drop, replicate, refl, ap, arith, append-nil, append_assoc, add_assoc}
use Rattle.std.specs.Prelude.{map}
use native.Mathlib.Numerals.{unary_clauses}
use Rattle.std.proofs.lemmas.List.{length-drop, drop-drop, drop_more, replicate_more}
use Rattle.std.proofs.lemmas.Bool.{eq-eqb, lt-ltb}
use Rattle.rv_board.specs.Support.State.{BoardState, halted_of}
use Rattle.rv_board.specs.Move.{moved, run, writes}
use Rattle.rv_board.specs.PlainSteps.{after_steps}
use Rattle.rv_board.specs.declared.event.Event.TheVariants.{Step}
use Rattle.rv_board.proofs.Runs.{run_append, run_more}
use Rattle.rv_timeline.specs.declared.input.Input.{Input}
use Rattle.rv_timeline.specs.declared.input.TimedInput.{TimedInput}
use Rattle.rv_timeline.specs.Timed.{never_falls}
use Rattle.rv_monitor.specs.Events.{event_of, inputs_at, events_of}
use Rattle.rv_monitor.specs.State.{TimedState, IsInTime, rest, count_before, after, with_due}
use Rattle.rv_monitor.proofs.Times.{from, from_earlier, late_from, late_of, late_count, drop_rises, drop_from, none_before, head_from, tail_from, all_from, none_of, count_most}

-- ---- no input runs out of memory

pub input_writes_not : (b : BoardState) (i : Input) → writes b (event_of i) ≡ false
unfolding writes
input_writes_not b i = search (rules, arith)

-- ---- events of more steps

-- the inputs of a later time are among those that are left
pub inputs_late : (xs : List TimedInput) (t u : ℕ) → t ≤ u → never_falls xs ≡ true →
    inputs_at (drop (count_before t xs) xs) u ≡ inputs_at xs u
unfolding inputs_at
inputs_late xs t u k h = search (rules, arith, late_of)

pub events_late : (xs : List TimedInput) (t u count : ℕ) → t ≤ u → never_falls xs ≡ true →
    events_of (drop (count_before t xs) xs) u count ≡ events_of xs u count
unfolding events_of
events_late xs t u zero k h = refl
events_late xs t u (suc count) k h = search (rules, arith, inputs_late, events_late xs t u count k h)

pub events_join : (xs : List TimedInput) (t k j : ℕ) →
    events_of xs t (k + j) ≡ events_of xs t k ++ events_of xs (t + k) j
unfolding events_of
events_join xs t k zero = search (rules, arith, append-nil)
events_join xs t k (suc j) = search (rules, arith, unary_clauses, append_assoc, add_assoc, events_join xs t k j)

-- the run of a first step's events
pub run_step : (b : BoardState) (xs : List TimedInput) (t : ℕ) →
    run b (events_of xs t 1) ≡ moved (run b (inputs_at xs t)) Step
unfolding events_of
run_step b xs t = search (rules, arith, run_more)

-- where all inputs are later none comes, as after those that were given ahead of a step
pub none_come : (xs : List TimedInput) (t : ℕ) → from (t + 1) xs ≡ true → inputs_at xs t ≡ []
unfolding inputs_at
none_come xs t h = search (rules, arith, none_of)

pub none_due : (xs : List TimedInput) (t : ℕ) → never_falls xs ≡ true →
    inputs_at (drop (count_before (t + 1) xs) xs) t ≡ []
none_due xs t h = search (rules, arith, none_come, late_from)

-- ---- states

pub same : (b c : BoardState) (xs : List TimedInput) (p q t u : ℕ) → b ≡ c → p ≡ q → t ≡ u
    → ◌≡◌ {A = TimedState} (record { board = b; inputs = xs; place = p; taken = t })
    (record { board = c; inputs = xs; place = q; taken = u })
same b c xs p q t u e f g = search (rules, arith)

-- the inputs that are left of those that were left
rest_late : (s : TimedState) (t : ℕ) → drop (s.place + count_before t (rest s)) s.inputs
    ≡ drop (count_before t (rest s)) (rest s)
rest_late s t = search (rules, arith, drop-drop)

place_late : (s : TimedState) (t u : ℕ) → t ≤ u → never_falls s.inputs ≡ true
    → (s.place + count_before t (rest s)) + count_before u (drop (s.place + count_before t (rest s)) s.inputs)
    ≡ s.place + count_before u (rest s)
place_late s t u k h = search (rules, arith, rest_late, add_assoc, late_count, drop_rises)

pub after_none : (s : TimedState) → IsInTime s → after s 0 ≡ s
unfolding after events_of
after_none s h =
    let now : s.taken + 0 ≡ s.taken = omega arith in
    rw (now, none_before s.taken (rest s) h.ahead) (search (rules, arith, same))

pub after_more : (s : TimedState) (k j : ℕ) → never_falls s.inputs ≡ true → after (after s k) j ≡ after s (k + j)
unfolding after
after_more s k j h = search (rules, arith, same, rest_late, events_late, run_append, events_join, drop_rises, place_late)

pub after_due : (s : TimedState) (j : ℕ) → never_falls s.inputs ≡ true → after (with_due s) (1 + j) ≡ after s (1 + j)
unfolding after with_due
after_due s j h = search (rules, arith, same, rest_late, events_join, run_append, run_step, none_due, events_late, drop_rises, place_late)

pub after_rises : (s : TimedState) (k : ℕ) → never_falls s.inputs ≡ true → never_falls (after s k).inputs ≡ true
unfolding after
after_rises s k h = search (rules, arith)

-- the next step is its inputs and then the step
pub after_step : (s : TimedState) → after s 1 ≡ record (with_due s) {
  board = moved (with_due s).board Step;
  taken = s.taken + 1;
}
unfolding after with_due
after_step s = same _ _ s.inputs _ _ _ _ (run_step s.board (rest s) s.taken) refl refl

-- ---- steps before which no input comes

events_quiet : (xs : List TimedInput) (t n : ℕ) → from (t + n) xs ≡ true → events_of xs t n ≡ replicate n Step
unfolding events_of inputs_at
events_quiet xs t zero h = refl
events_quiet xs t (suc n) h = search (rules, arith, none_of, from, from_earlier, replicate_more, events_quiet xs t n)

-- such steps with a timed list are the same steps without one
pub after_quiet : (s : TimedState) (n : ℕ) → from (s.taken + n) (rest s) ≡ true →
    after s n ≡ record s { board = after_steps s.board n; taken = s.taken + n }
unfolding after
after_quiet s n h = search (rules, arith, none_before, same, events_quiet)

-- ---- no input halts a board

halted_run : (b : BoardState) (is : List TimedInput) → halted_of (run b (map (λ x. event_of x.input) is)) ≡ halted_of b
unfolding moved
halted_run b [] = refl
halted_run b (x ∷ xs) = search (rules, arith, halted_run (moved b (event_of x.input)) xs)

pub halted_due : (s : TimedState) → halted_of (with_due s).board ≡ halted_of s.board
unfolding with_due inputs_at
halted_due s = search (rules, arith, halted_run)

-- ---- a state that is in time stays so

place_within : (s : TimedState) (t : ℕ) → IsInTime s → s.place + count_before t (rest s) ≤ length s.inputs
place_within s t h = search (rules, arith, count_most, length-drop)

pub in_time_due : (s : TimedState) → IsInTime s → IsInTime (with_due s)
unfolding with_due
in_time_due s h =
    let left = drop_from s.taken (count_before (s.taken + 1) (rest s)) (rest s) h.ahead in
    search (rules, arith, place_within, rest_late)

pub in_time_after : (s : TimedState) (n : ℕ) → IsInTime s → IsInTime (after s n)
unfolding after
in_time_after s n h = search (rules, arith, place_within, from, rest_late, late_from, drop_rises)

-- a state with no input before a later time, by its fields
module _ (b : BoardState) (xs : List TimedInput) (place t later : ℕ)
    (quiet : from later (drop place xs) ≡ true) (before : t < later) where
  abbrev quiet_state : TimedState
  quiet_state = record { board = b; inputs = xs; place = place; taken = t }

  pub none_is_due : quiet_state ≡ with_due quiet_state
  unfolding with_due inputs_at
  none_is_due = search (rules, arith, none_before, from_earlier, same, none_of)

-- a state whose next n inputs were given, by its fields
module _ (xs more : List TimedInput) (place n p : ℕ) (is : more ≡ drop place xs) (at : p ≡ place + n) where
  pub left_from : (u : ℕ) → from u (drop n more) ≡ true → from u (drop p xs) ≡ true
  left_from u h = rw (at, ← drop-drop, ← is) h

  module _ (b c : BoardState) (t : ℕ) where
    abbrev pub old : TimedState
    old = record { board = b; inputs = xs; place = place; taken = t }

    pub given_in_time : IsInTime old → n ≤ length more → from (t + 1) (drop n more) ≡ true
        → IsInTime (record { board = c; inputs = xs; place = p; taken = t })
    given_in_time h le left =
        let later = from_earlier t (t + 1) (drop p xs) (left_from (t + 1) left) (omega arith) in
        let all : length more ≡ length xs - place = ap length is ∙ length-drop place xs in search (rules, arith)

    pub given_is_due : n ≡ count_before (t + 1) more → c ≡ run b (inputs_at more t)
        → ◌≡◌ {A = TimedState} (record { board = c; inputs = xs; place = p; taken = t }) (with_due old)
    unfolding with_due
    given_is_due count ran = search (rules, arith, same)

-- ---- the inputs of a time are given one after another

module _ (xs : List TimedInput) (t i : ℕ) (x d : TimedInput) (lt : i < length xs) (at : x ≡ get_or xs i d) where
  first_left : drop i xs ≡ x ∷ drop (i + 1) xs
  first_left = rw (at) (drop_more xs i d lt)

  -- one more input is given
  module _ (le : x.step ≤ t) (ahead : from t (drop i xs) ≡ true) where
    pub ran_more : (b new : BoardState) → new ≡ moved b (event_of x.input)
        → run new (inputs_at (drop (i + 1) xs) t) ≡ run b (inputs_at (drop i xs) t)
    unfolding inputs_at
    ran_more b new is = search (rules, arith, first_left, eq-eqb, head_from)

    pub count_more : count_before (t + 1) (drop i xs) ≡ suc (count_before (t + 1) (drop (i + 1) xs))
    count_more = rw (first_left, lt-ltb x.step (t + 1) (omega arith)) refl

    pub ahead_more : from t (drop (i + 1) xs) ≡ true
    ahead_more = search (rules, arith, first_left, tail_from)

  -- at an input of a later time all inputs of this time are given
  pub none_left : never_falls xs ≡ true → t < x.step → from (t + 1) (drop i xs) ≡ true
  none_left rising later = search (rules, arith, first_left, all_from, drop_rises)

-- ---- the laws

pub runs_join : (b : BoardState) (timed : List TimedInput) (k j : ℕ) → never_falls timed ≡ true
    → run (run b (events_of timed 0 k)) (events_of (drop (count_before k timed) timed) k j)
    ≡ run b (events_of timed 0 (k + j))
runs_join b timed k j h = search (rules, arith, events_late, run_append, events_join)

pub due_after : (s : TimedState) (j : ℕ) → never_falls s.inputs ≡ true → 0 < j → after (with_due s) j ≡ after s j
due_after s j h some = let e : 1 + (j - 1) ≡ j = omega arith in rw (← e) (after_due s (j - 1) h)

pub again : (s : TimedState) → IsInTime s → (k j : ℕ) → 0 < j → after (with_due (after s k)) j ≡ after s (k + j)
again s h k j some = due_after (after s k) j (after_rises s k h.rising) some ∙ after_more s k j h.rising
