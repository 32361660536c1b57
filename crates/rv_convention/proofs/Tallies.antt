-- What is counted of a run, by its lines.
use Rattle.std.proofs.Common.{rules, ◌≡◌, ◌∙◌, ℕ, zero, suc, ◌+◌, ◌-◌, ◌<◌, ◌≤◌, Bool, true, false, add-one, cond, List, [], ◌∷◌, drop, fold, get_or, length, map, replicate, set, take, refl, sym, ap, subst, nat_lt, arith}
use Rattle.std.specs.Prelude.{◌&&◌, ◌||◌, Option, Some, None, filter_map, if◌then◌else◌, is_some, not}
use Rattle.std.specs.List.{cons_option, list_any, prefix_len, range_with_len}
use Rattle.std.proofs.Math.Bool.{or_assoc, or-false}
use Rattle.std.proofs.lemmas.Bool.Decides.{nat_tests}
use Rattle.std.proofs.lemmas.List.{get_or_past}
use Rattle.std.proofs.lemmas.List.Sums.{get_or-le-sum_by, sum_by-cons, sum_by-set, sum_by-take-le}
use Rattle.rv_asm.specs.Lines.{Listed, HasByteAt}
use Rattle.rv_monitor.specs.State.{TimedState}
use Rattle.rv_recording.specs.Recording.{RecordingState}
use Rattle.rv_why.specs.Taken.{first_state}
use Rattle.rv_convention.specs.Convention.{Moment, moments, turn_of}
use Rattle.rv_convention.specs.Profile.{begins_in, enters, is_entry, is_in, part_steps, place_for, placed, profiled, row_of, steps_in, tallied, told}
use Rattle.rv_convention.specs.Support.Follows.{by_turn}
use Rattle.rv_convention.specs.Support.Tallies.{TallyState, before_next, changed, changed_in, each, entered, none_counted, nothing, placed_if, stepped, steps_of, tally_after}
use Rattle.rv_answers.specs.declared.profile.Profiled.{Profiled}
use Rattle.rv_answers.specs.declared.profile.Spent.{Spent}
use Rattle.rv_convention.specs.declared.rows.Part.{Part}
use Rattle.rv_convention.specs.declared.rows.Part.TheVariants.{Line, Function}
use Rattle.rv_convention.specs.declared.tally.Tallied.{Tallied}

-- ---- the line of an address

each_kept : (change : ℕ → Tallied → Tallied) (n : ℕ) (ts : List Tallied)
    → ((m : ℕ) → n ≤ m → (t : Tallied) → change m t ≡ t) → ts ≡ each change n ts
each_kept change n [] same = refl
each_kept change n (t ∷ ts) same =
    cc (same n (omega arith) t, each_kept change (suc n) ts (λ m low. same m (omega (arith, low))))

pub inside : (l : Listed) (a n : ℕ) → 1 ≤ n → is_in l n a ≡ true → HasByteAt l a n
inside l a n h t = grind (arith, nat_tests)

pub is_inside : (l : Listed) (a n : ℕ) → HasByteAt l a n → is_in l n a ≡ true
is_inside l a n h = grind (arith, nat_tests)

is_listed : (l : Listed) (a n k : ℕ) → HasByteAt l a n → k + 1 ≡ length l.addresses → n - 1 < k
is_listed l a n k h e = grind (arith, get_or_past)

module _ (l : Listed) (a : ℕ) (change : Tallied → Tallied) where
  kept : (n : ℕ) → 1 ≤ n → (HasByteAt l a n → ⊥) → (t : Tallied) → changed_in l a change n t ≡ t
  kept n low never t = search (rules, arith, inside, never)

  -- the line at a place, by its number k
  set_at : (n i k : ℕ) (ts : List Tallied) (t : Tallied) → 1 ≤ n → k ≡ n + i → i < length ts → HasByteAt l a k
      → ((m : ℕ) → HasByteAt l a m → m ≡ k) → t ≡ get_or ts i t
      → set ts i (change t) ≡ each (changed_in l a change) n ts
  set_at n i k [] t low is less here only e = absurd (omega (arith, less))
  set_at n zero k (u ∷ us) t low is less here only e =
      let same : k ≡ n = omega (arith, is) in
      let yes = is_inside l a n (subst (HasByteAt l a) same here) in
      rw yes (cc (
        e,
        each_kept (changed_in l a change) (suc n) us
            (λ m high. kept m (omega (arith, high)) (λ h. let at = only m h in absurd (omega (arith, at, is, high)))),
      ))
  set_at n (suc i) k (u ∷ us) t low is less here only e =
      cc (
        kept n low (λ h. let at = only n h in absurd (omega (arith, at, is))) u,
        set_at (suc n) i k us t (omega arith) (omega (arith, is)) (omega (arith, less)) here only e,
      )

  pub changed_none : (ts : List Tallied) → ((m : ℕ) → HasByteAt l a m → ⊥) → ts ≡ changed l a change ts
  unfolding changed
  changed_none ts never = each_kept (changed_in l a change) 1 ts (λ m low. kept m low (never m))

  pub changed_here : (ts : List Tallied) (n : ℕ) (t : Tallied) → HasByteAt l a n → ((m : ℕ) → HasByteAt l a m → m ≡ n)
      → length ts + 1 ≡ length l.addresses → t ≡ get_or ts (n - 1) t → set ts (n - 1) (change t) ≡ changed l a change ts
  unfolding changed
  changed_here ts n t here only all is =
      set_at 1 (n - 1) n ts t (omega arith) (omega (arith, here.0)) (is_listed l a n (length ts) here all) here only is

-- ---- their sum

pub sum_raised : (ts : List Tallied) (i : ℕ) (v t : Tallied) → i < length ts → t ≡ get_or ts i nothing
    → v.steps ≡ t.steps + 1 → steps_of (set ts i v) ≡ steps_of ts + 1
sum_raised ts i v t within e f = grind (arith, nat_tests, sum_by-set)

pub sum_kept : (ts : List Tallied) (i : ℕ) (v t : Tallied) → i < length ts → t ≡ get_or ts i nothing
    → v.steps ≡ t.steps → steps_of (set ts i v) ≡ steps_of ts
sum_kept ts i v t within e f = grind (arith, nat_tests, sum_by-set)

pub none_sum : (n : ℕ) → steps_of (replicate n nothing) ≡ 0
none_sum zero = refl
none_sum (suc n) = none_sum n

pub below_sum : (ts : List Tallied) (i : ℕ) (t : Tallied) → i < length ts → t ≡ get_or ts i nothing
    → t.steps ≤ steps_of ts
below_sum ts i t within e = grind (arith, nat_tests, get_or-le-sum_by)

-- ---- after some moments

each_each : (f g : ℕ → Tallied → Tallied) (n : ℕ) (ts : List Tallied)
    → each f n (each g n ts) ≡ each (λ k t. f k (g k t)) n ts
each_each f g n [] = refl
each_each f g n (t ∷ ts) = ap (λ us. f n (g n t) ∷ us) (each_each f g (suc n) ts)

each_of_none : (f : ℕ → Tallied → Tallied) (line : ℕ → Tallied) → ((n : ℕ) → f n nothing ≡ line n) → (n k : ℕ)
    → each f n (replicate k nothing) ≡ map line (range_with_len n k)
each_of_none f line is n zero = refl
each_of_none f line is n (suc k) = ap (λ t. t ∷ each f (suc n) (replicate k nothing)) (is n)
    ∙ ap (λ ts. line n ∷ ts) (ap (λ m. each f m (replicate k nothing)) (sym (add-one n))
    ∙ each_of_none f line is (n + 1) k)

-- line n after a step
abbrev line_after : Listed → ℕ → Tallied → Moment → Tallied
line_after l n t m =
    let u = changed_in l m.before.machine.pc stepped n t in
    if is_entry (turn_of m.before m.did) then changed_in l m.now.machine.pc entered n u else u

lines_step : (l : Listed) (m : Moment) (ts : List Tallied) (b : Bool)
    → (let us = each (changed_in l m.before.machine.pc stepped) 1 ts in
    if b then each (changed_in l m.now.machine.pc entered) 1 us else us)
    ≡ each (λ n t. let u = changed_in l m.before.machine.pc stepped n t in
    if b then changed_in l m.now.machine.pc entered n u else u) 1 ts
lines_step l m ts true = each_each _ _ 1 ts
lines_step l m ts false = refl

abbrev pub halts : Moment → Bool
halts m = is_some m.now.machine.bus.halt

lines_after : (t : TallyState) (ms : List Moment) → (fold (by_turn tally_after) t ms).lines
    ≡ each (λ n u. fold (line_after t.listing n) u ms) 1 t.lines
unfolding tally_after changed
lines_after t [] = each_kept (λ n u. u) 1 t.lines (λ m low u. refl)
lines_after t (m ∷ ms) = lines_after (by_turn tally_after t m) ms
    ∙ (ap (each (λ n u. fold (line_after t.listing n) u ms) 1)
    (lines_step t.listing m t.lines (is_entry (turn_of m.before m.did)))
    ∙ each_each (λ n u. fold (line_after t.listing n) u ms) (λ n u. line_after t.listing n u m) 1 t.lines)

line_by : (t : Tallied) (e i j : Bool)
    → (let u = if i then stepped t else t in if e then (if j then entered u else u) else u)
    ≡ record { steps = t.steps + cond i 1 0; begins = t.begins || (e && j) }
line_by t e i j = grind (arith, nat_tests)

line_parts : (l : Listed) (n : ℕ) (t : Tallied) (ms : List Moment) → fold (line_after l n) t ms ≡ record {
  steps = fold (λ (a : ℕ) (m : Moment). a + cond (is_in l n m.before.machine.pc) 1 0) t.steps ms;
  begins = t.begins || list_any (enters l n) ms;
}
line_parts l n t [] = ap (λ b. record { steps = t.steps; begins = b }) (sym (or-false t.begins))
line_parts l n t (m ∷ ms) = line_parts l n (line_after l n t m) ms ∙ rw (
  line_by t (is_entry (turn_of m.before m.did))
      (is_in l n m.before.machine.pc) (is_in l n m.now.machine.pc),
  or_assoc,
) refl

steps_after : (t : TallyState) (ms : List Moment) → (fold (by_turn tally_after) t ms).steps ≡ t.steps + length ms
unfolding tally_after
steps_after t [] = omega arith
steps_after t (m ∷ ms) = omega (arith, steps_after (by_turn tally_after t m) ms)

halted_after : (t : TallyState) (ms : List Moment)
    → (fold (by_turn tally_after) t ms).has_halted ≡ (t.has_halted || list_any halts ms)
unfolding tally_after
halted_after t [] = sym (or-false t.has_halted)
halted_after t (m ∷ ms) =
    halted_after (by_turn tally_after t m) ms ∙ or_assoc t.has_halted (halts m) (list_any halts ms)

-- what is counted of a run, by its moments
module _ (l : Listed) (s : TimedState) (ms : List Moment) where
  abbrev all_counted : TallyState
  all_counted = fold (by_turn tally_after) (none_counted l s.board.machine.pc) ms

  all_lines : all_counted.lines ≡ tallied l s ms
  unfolding tallied changed
  all_lines = lines_after (none_counted l s.board.machine.pc) ms
      ∙ (each_each _ _ 1 (replicate (length l.addresses - 1) nothing)
      ∙ each_of_none _ _ (λ n. search (rules, arith, line_parts)) 1 (length l.addresses - 1))

  steps_all : all_counted.steps ≡ length ms
  steps_all = omega (arith, steps_after (none_counted l s.board.machine.pc) ms)

  halted_all : all_counted.has_halted ≡ list_any halts ms
  halted_all = halted_after (none_counted l s.board.machine.pc) ms

-- ---- the steps of functions

pub no_more : (first : Tallied) (rest : List Tallied) → first.begins ≡ true → before_next (first ∷ rest) ≡ 0
no_more first rest e = rw e refl

pub one_more : (first : Tallied) (rest : List Tallied) → first.begins ≡ false
    → before_next (first ∷ rest) ≡ first.steps + before_next rest
one_more first rest e =
    let count = prefix_len (λ (u : Tallied). not u.begins) rest in
    let on : 1 + count ≡ suc count = omega arith in
    ap (λ b. steps_of (take (cond (not b) (1 + count) 0) (first ∷ rest))) e
    ∙ (ap (λ k. steps_of (take k (first ∷ rest))) on
    ∙ sum_by-cons (λ (u : Tallied). u.steps) first (take count rest))

pub part_below : (ts : List Tallied) → before_next ts ≤ steps_of ts
part_below ts = sum_by-take-le (λ (u : Tallied). u.steps) ts _

-- ---- the places of rows

pub placed_here : (row : Spent) (rest : List Spent) (steps : ℕ) → nat_lt row.steps steps ≡ true
    → place_for (row ∷ rest) steps ≡ 0
placed_here row rest steps e = ap (λ b. cond (not b) (1 + place_for rest steps) 0) e

pub placed_later : (row : Spent) (rest : List Spent) (steps : ℕ) → nat_lt row.steps steps ≡ false
    → place_for (row ∷ rest) steps ≡ 1 + place_for rest steps
placed_later row rest steps e = ap (λ b. cond (not b) (1 + place_for rest steps) 0) e

-- ---- what is told

-- of the lines from the nth on
abbrev pub rows_from : Listed → List Tallied → Part → ℕ → List Spent
rows_from l lines part n =
    filter_map (λ k. row_of l (k + 1) (part_steps part (drop k lines))) (range_with_len n (length lines - n))

module _ (l : Listed) (lines : List Tallied) (part : Part) where
  pub told_first : fold placed [] (rows_from l lines part 0) ≡ told l lines part
  unfolding told
  told_first = let all : length lines - 0 ≡ length lines = omega arith in rw all refl

  with_row : (rows left : List Spent) (o : Option Spent)
      → fold placed rows (cons_option o left) ≡ fold placed (placed_if rows o) left
  with_row rows left o = search rules

  pub told_next : (n : ℕ) (rows later : List Spent) (o : Option Spent) → n < length lines
      → o ≡ row_of l (n + 1) (part_steps part (drop n lines)) → later ≡ placed_if rows o
      → fold placed later (rows_from l lines part (n + 1)) ≡ fold placed rows (rows_from l lines part n)
  told_next n rows later o less is e =
      let more : length lines - n ≡ suc (length lines - (n + 1)) = omega (arith, less) in
      rw (more, e, ← is) (sym (with_row rows (rows_from l lines part (n + 1)) o))

  pub told_last : (n : ℕ) (rows : List Spent) → length lines ≤ n → fold placed rows (rows_from l lines part n) ≡ rows
  told_last n rows past = let none : length lines - n ≡ 0 = omega (arith, past) in rw none refl

-- ---- the whole

pub profile_is : (l : Listed) (r : RecordingState) (most : ℕ) (s : TimedState) (a : ℕ) (first t : TallyState)
    (lines functions : List Spent) → s ≡ first_state r → a ≡ s.board.machine.pc → first ≡ none_counted l a
    → t ≡ fold (by_turn tally_after) first (moments most s) → lines ≡ told l t.lines Line
    → functions ≡ told l t.lines Function → ◌≡◌ {A = Profiled}
    (record { steps = t.steps; has_halted = t.has_halted; lines = lines; functions = functions }) (profiled l r most)
unfolding profiled
profile_is l r most s a first t lines functions is at begins runs e f =
    cc (all_lines l s (moments most s), steps_all l s (moments most s), halted_all l s (moments most s))
