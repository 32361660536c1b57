-- The steps of a run, followed one after another.
use Rattle.std.proofs.Common.{rules, ◌≡◌, ◌∙◌, ℕ, suc, ◌+◌, ◌-◌, ◌<◌, ◌≤◌, Bool, true, false, List, ◌∷◌, refl, sym, ap, subst, arith}
use Rattle.std.specs.Prelude.{◌&&◌, fold, is_none, is_some, Option}
use Rattle.std.proofs.lemmas.Bool.Decides.{nat_tests}
use Rattle.rv_board.specs.BoardState.{BoardState}
use Rattle.rv_monitor.specs.State.{SessionState, TimedState, after}
use Rattle.rv_recording.specs.Recording.{RecordingState}
use Rattle.rv_answers.specs.declared.convention.Checked.{Checked}
use Rattle.rv_why.specs.Taken.{first_state}
use Rattle.rv_convention.specs.Convention.{Moment, Progress, after_turn, checked, moment, moments, none_yet}
use Rattle.rv_convention.specs.Support.Follows.{Follows, by_turn}
use Rattle.rv_convention.specs.declared.turn.Turn.{Turn}

-- what is known of a run after some moments
abbrev pub known : {P : Type 0} → (P → ℕ → Turn → BoardState → P) → P → List Moment → P
known follows p ms = fold (by_turn follows) p ms

-- some steps of a run were followed: the others lead to where all do
pub record Following {P : Type 0} (follows : P → ℕ → Turn → BoardState → P) (steps : P → ℕ) (none : P)
    (first : SessionState) (most : ℕ) (now : SessionState) (seen : P) (n : ℕ) : Type 0 where
  pub all : known follows none (moments most first.timed) ≡ known follows seen (moments (most - n) now.timed)
  pub limit : now.limit ≡ most
  pub taken : now.timed.taken ≡ n
  pub count : steps seen ≡ n

pub begins : {P : Type 0} (follows : P → ℕ → Turn → BoardState → P) (steps : P → ℕ) (none : P)
    (first : SessionState) (most : ℕ) → first.timed.taken ≡ 0 → first.limit ≡ most → steps none ≡ 0
    → Following follows steps none first most first none 0
begins follows steps none first most taken limit e = search (rules, arith, nat_tests)

both_by : (a b : Bool) → (a && b) ≡ true → a ≡ true
both_by a b e = search (rules, arith, nat_tests)

runs_by : (h : Option ℕ) → is_none h ≡ true → is_some h ≡ false
runs_by h e = search (rules, arith, nat_tests)

halts_by : (h : Option ℕ) (b : Bool) → b ≡ true → (is_none h && b) ≡ false → is_some h ≡ true
halts_by h b e f = search (rules, arith, nat_tests)

more_moments : (k : ℕ) (s : TimedState) → is_some s.board.machine.bus.halt ≡ false
    → moments (suc k) s ≡ moment s ∷ moments k (after s 1)
unfolding moments
more_moments k s e = rw e refl

module _ {P : Type 0} (follows : P → ℕ → Turn → BoardState → P) (steps : P → ℕ) (none : P) (first : SessionState)
    (most : ℕ) (now : SessionState) (seen : P) (n : ℕ) (f : Following follows steps none first most now seen n) where
  pub more : (next : SessionState) (later : P) (b : Bool) → b ≡ true → n < most
      → Follows follows steps now next seen later b → Following follows steps none first most next later (n + 1)
  unfolding after
  more next later b is less taken =
      let took = subst (λ (x : Bool). Follows follows steps now next seen later x) is taken in
      let running = runs_by now.timed.board.machine.bus.halt (both_by _ _ took.0) in
      let rest : most - n ≡ suc (most - (n + 1)) = omega (arith, less) in
      record {
        all = f.all ∙ rw (rest, more_moments (most - (n + 1)) now.timed running, took.1, took.2) refl;
        limit = rw took.1 f.limit;
        taken = let sum = ap (λ (s : SessionState). s.timed.taken) took.1 in omega (arith, sum, f.taken);
        count = let sum = took.3 in omega (arith, sum, f.count);
      }

  pub ends : (next : SessionState) (later : P) (b : Bool) → b ≡ false → n < most
      → Follows follows steps now next seen later b → later ≡ known follows none (moments most first.timed)
  unfolding moments
  ends next later b is less taken = search (rules, arith, nat_tests, halts_by)

  pub all_followed : most ≤ n → seen ≡ known follows none (moments most first.timed)
  unfolding moments
  all_followed past = search (rules, arith, nat_tests)

-- ---- what is told

pub told : (r : RecordingState) (most : ℕ) (s : TimedState) (first p : Progress) → s ≡ first_state r
    → first ≡ none_yet → p ≡ known after_turn first (moments most s)
    → ◌≡◌ {A = Checked} (record { steps = p.steps; has_halted = p.has_halted; breaches = p.breaches }) (checked r most)
unfolding checked
told r most s first p is none e = search (rules, arith, nat_tests)
