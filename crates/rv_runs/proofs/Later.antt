-- A run from a later session on is the rest of a run.
use Rattle.std.proofs.Common.{◌≡◌, ℕ, zero, suc, ◌+◌, Bool, true, false, List, [], ◌∷◌, refl, sym, ap, arith}
use Rattle.std.proofs.lemmas.Bool.Decides.{nat_tests}
use native.Mathlib.Numerals.{unary_clauses}
use Rattle.std.specs.Prelude.{◌&&◌, nat_eq, nat_lt, not, is_some, pred, if◌then◌else◌, option_and_then, Option, None}
use Rattle.std.specs.List.{list_any}
use Rattle.std.specs.Option.{option_eq}
use Rattle.rv_board.specs.BoardState.{BoardState}
use Rattle.rv_monitor.specs.State.{IsInTime, SessionState, TimedState, after}
use Rattle.rv_monitor.proofs.Sets.{no_member}
use Rattle.rv_monitor.proofs.Steps.{after_more, after_none, in_time_after}
use Rattle.rv_recording.specs.Out.{open_at}
use Rattle.rv_recording.specs.Support.Steps.{first_end}
use Rattle.rv_recording.specs.Until.{comes, watched_value}
use Rattle.rv_recording.specs.declared.until.Condition.{Condition}
use Rattle.rv_recording.specs.declared.until.End.{End}
use Rattle.rv_recording.specs.declared.until.Watched.{Watched}
use Rattle.rv_runs.specs.Ends.{Stops, goal_after, guarded_ends, guards_after, plain_ends, run_ends}
use Rattle.rv_runs.specs.Guards.{counted, counted_by, end_here, hits, is_hit, is_met, passing}
use Rattle.rv_runs.specs.Support.Plain.{watched_ends}
use Rattle.rv_runs.specs.Watches.{changes_at, differs, watching}
use Rattle.rv_runs.specs.declared.goal.Goal.{Goal}
use Rattle.rv_runs.specs.declared.goal.Goal.TheVariants as goal
use Rattle.rv_runs.specs.declared.guard.Guard.{Guard}

pub taken_after : (s : TimedState) (n : ℕ) → (after s n).taken ≡ s.taken + n
unfolding after
taken_after s n = refl

-- ---- the rest of a run is a run

-- also where it went on at a breakpoint
goes_on_past : (gs : List Guard) (t : SessionState) (h : Option ℕ) (r b : Bool)
    → is_some (option_and_then (end_here gs t) (first_end h r b (nat_lt t.timed.taken t.limit))) ≡ false
    → first_end h false false (nat_lt t.timed.taken t.limit) ≡ None
goes_on_past gs t h r b e = grind arith

-- steps past any breakpoint come to none
no_break : (gs : List Guard) (t : SessionState) (b : Bool) (h : Option ℕ) (z l : Bool) → b ≡ false
    → first_end h (z && false) (z && b) l ≡ option_and_then (end_here gs t) (first_end h (z && false) (z && b) l)
no_break gs t b h z l e = grind arith

-- why a run is over by why it would be without guards
pub is_passing : (ms : List ℕ) (gs : List Guard) (g : Goal) (s : SessionState) (n : ℕ)
    → guarded_ends ms gs g s n ≡ passing gs s (plain_ends ms g s) n
is_passing ms gs g s n = grind (arith, nat_tests, no_break, no_member)

pub none_of : {A : Type 0} (o : Option A) → is_some o ≡ false → o ≡ None
none_of o e = grind arith

above : (n : ℕ) → nat_lt 0 (suc n) ≡ true
above n = grind (arith, nat_tests)

-- a board differs from itself in nothing
same_option : (o : Option ℕ) → option_eq nat_eq o o ≡ true
same_option o = grind (arith, nat_tests)

no_difference : (b : BoardState) (w : Watched) → differs b b w ≡ false
unfolding differs
no_difference b w = ap not (same_option (watched_value b w))

pub no_change : (b : BoardState) (ws : List Watched) → list_any (differs b b) ws ≡ false
no_change b [] = refl
no_change b (w ∷ ws) = rw (no_difference b w) (no_change b ws)

-- where a run isn't over, its last step changed nothing
pub open_part : (changes : Bool) (o : Option End) → is_some (watching changes o) ≡ false
    → (changes ≡ false) × (is_some o ≡ false)
open_part changes o e = grind arith

-- what stops a run after some of its steps
abbrev pub stops_after : Stops → Goal → SessionState → ℕ → Stops
stops_after st g s n = record st { guards = guards_after st.marks st.guards g s n }

module _ (s : SessionState) (k : ℕ) (h : IsInTime s.timed) where
  abbrev mid : SessionState
  mid = record s { timed = after s.timed k }

  later : (i : ℕ) → after mid.timed i ≡ after s.timed (k + i)
  later i = after_more s.timed k i h.rising

  -- before its first step it isn't over
  first_open : (ms : List ℕ) (gs : List Guard) (g : Goal) → is_some (guarded_ends ms gs g s k) ≡ false
      → plain_ends ms (goal_after g s.timed k) mid 0 ≡ None
  first_open ms gs g e = grind (arith, nat_tests, after_none, in_time_after, is_passing, goes_on_past)

  -- its hits are those of the whole run
  module _ (E F : ℕ → Option End) (same : (j : ℕ) → F (suc j) ≡ E (k + suc j)) where
    hit_later : (g : Guard) (p j : ℕ) → is_hit (record g { passes = p }) mid F (suc j) ≡ is_hit g s E (k + suc j)
    unfolding is_hit is_met
    hit_later g p j = grind (arith, nat_tests, later)

    hits_later : (g : Guard) (p i : ℕ) → hits g s E k + hits (record g { passes = p }) mid F i ≡ hits g s E (k + i)
    unfolding hits
    hits_later g p zero = simp unary_clauses refl
    hits_later g p (suc i) =
        let here = hit_later g p i in
        let before = hits_later g p i in
        let more : k + suc i ≡ suc (k + i) = omega arith in
        rw more (rw (rw more at here) (grind (arith, nat_tests)))

    one_later : (i : ℕ) (g : Guard) → counted_by mid F i (counted_by s E k g) ≡ counted_by s E (k + i) g
    one_later i g = grind (arith, nat_tests, hits_later)

    pub counted_later : (gs : List Guard) (i : ℕ) → counted (counted gs s E k) mid F i ≡ counted gs s E (k + i)
    counted_later [] i = refl
    counted_later (g ∷ gs) i = rw (one_later i g, counted_later gs i) refl

  pub open_later : (calls i : ℕ) → open_at (open_at calls s.timed k) mid.timed i ≡ open_at calls s.timed (k + i)
  unfolding open_at
  open_later calls zero = simp unary_clauses refl
  open_later calls (suc i) = simp unary_clauses (rw (open_later calls i) (rw (later i) refl))

  comes_later : (c : Condition) (j : ℕ) → comes c mid.timed (suc j) ≡ comes c s.timed (k + suc j)
  unfolding comes
  comes_later c j = simp (later, unary_clauses)

  -- why the rest of a run would be over without guards, after its first step
  plain_later : (ms : List ℕ) (g : Goal) (j : ℕ)
      → plain_ends ms (goal_after g s.timed k) mid (suc j) ≡ plain_ends ms g s (k + suc j)
  plain_later ms g j = grind (arith, nat_tests, above, later, open_later, comes_later)

  -- the guards that it leaves
  pub guards_later : (ms : List ℕ) (gs : List Guard) (g : Goal) (i : ℕ)
      → guards_after ms (guards_after ms gs g s k) (goal_after g s.timed k) mid i ≡ guards_after ms gs g s (k + i)
  guards_later ms gs g i = grind (arith, nat_tests, counted_later, plain_later)

  -- why it is over where nothing is watched
  pub guarded_later : (ms : List ℕ) (gs : List Guard) (g : Goal) → is_some (guarded_ends ms gs g s k) ≡ false → (i : ℕ)
      → guarded_ends ms (guards_after ms gs g s k) (goal_after g s.timed k) mid i ≡ guarded_ends ms gs g s (k + i)
  guarded_later ms gs g e zero = simp unary_clauses (rw (is_passing, first_open ms gs g e) (sym (none_of _ e)))
  guarded_later ms gs g e (suc j) =
      let one : pred (k + suc j) ≡ k + j = omega arith in
      rw (is_passing, is_passing ms gs g s (k + suc j), one, guards_later ms gs g j, plain_later ms g j, later (suc j))

  -- its steps change what those of the whole run do
  changes_later : (ws : List Watched) → changes_at ws s.timed k ≡ false → (i : ℕ)
      → changes_at ws mid.timed i ≡ changes_at ws s.timed (k + i)
  changes_later ws e zero = grind (arith, no_change)
  changes_later ws e (suc j) = simp (later, unary_clauses)

  pub watched_later : (st : Stops) (g : Goal) → is_some (watched_ends st g s k) ≡ false → (i : ℕ)
      → watched_ends (stops_after st g s k) (goal_after g s.timed k) mid i ≡ watched_ends st g s (k + i)
  watched_later st g e i =
      let o = open_part (changes_at st.watches s.timed k) (guarded_ends st.marks st.guards g s k) e in
      rw (changes_later st.watches o.0 i, guarded_later st.marks st.guards g o.1 i)

  -- why it is over
  pub ends_later : (st : Stops) (g : Goal) → is_some (run_ends st g s k) ≡ false → (i : ℕ)
      → run_ends (stops_after st g s k) (goal_after g s.timed k) mid i ≡ run_ends st g s (k + i)
  ends_later st goal.Count e i = guarded_later st.marks st.guards goal.Count e i
  ends_later st goal.Trace e i = guarded_later st.marks st.guards goal.Trace e i
  ends_later st g e i = watched_later st g e i

  pub goal_later : (g : Goal) (i : ℕ) → goal_after (goal_after g s.timed k) mid.timed i ≡ goal_after g s.timed (k + i)
  goal_later g i = grind (arith, open_later)
