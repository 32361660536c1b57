-- What goes on after a call of a run.
use Rattle.std.proofs.Common.{◌≡◌, ◌∙◌, ℕ, ◌+◌, ◌-◌, Bool, true, false, sym, ap, arith}
use Rattle.std.proofs.lemmas.Bool.Decides.{nat_tests}
use Rattle.std.specs.Prelude.{◌&&◌, nat_lt, is_none, is_some, min, if◌then◌else◌, unwrap_or, Option, Some, None}
use Rattle.rv_monitor.specs.State.{IsInTime, SessionState, after}
use Rattle.rv_recording.specs.Until.{steps_of}
use Rattle.rv_recording.specs.declared.until.End.{End}
use Rattle.rv_recording.specs.declared.until.End.TheVariants.{Limit}
use Rattle.rv_recording.proofs.Counting.{as_far, joins, none_before, same_steps, steps_within}
use Rattle.rv_runs.specs.Ends.{Stops, goal_after, run_ends}
use Rattle.rv_runs.specs.Plans.{plan_after, rest_of, resumes_after, resumes_of}
use Rattle.rv_runs.specs.declared.goal.Goal.{Goal}
use Rattle.rv_runs.specs.declared.plan.Plan.{Plan}
use Rattle.rv_runs.proofs.Later.{ends_later, goal_later, stops_after}
use Rattle.rv_runs.proofs.Parts.{all_of}
use Rattle.rv_runs.proofs.Watching.{is_limit, never}

-- ---- after a call that ended so

never_run : (st : Stops) (g : Goal) (s : SessionState) (n : ℕ) → is_limit (run_ends st g s n) ≡ false
never_run st g s n = grind (arith, never)

pub plan_is : (st : Stops) (p : Plan) (s : SessionState) (n : ℕ)
    → rest_of p (goal_after p.goal s.timed n) (unwrap_or (run_ends st p.goal s n) Limit) n ≡ plan_after st p s n
unfolding plan_after
plan_is st p s n = grind (arith, nat_tests, never_run)

pub resumes_is : (st : Stops) (g : Goal) (s : SessionState) (n : ℕ)
    → resumes_of (goal_after g s.timed n) (unwrap_or (run_ends st g s n) Limit) ≡ resumes_after st g s n
resumes_is st g s n = grind (arith, never_run)

-- what `c` goes on for after the rest of a run
pub resumes_later : (s : SessionState) (k : ℕ) → IsInTime s.timed → (st : Stops) (g : Goal) → is_some (run_ends st g s k) ≡ false
    → (i : ℕ) → resumes_after (stops_after st g s k) (goal_after g s.timed k) (record s { timed = after s.timed k }) i
    ≡ resumes_after st g s (k + i)
resumes_later s k h st g e i = rw (ends_later s k h st g e i, goal_later s k h g i)

-- ---- a run and its rest

-- the plan that is kept, and what was not yet over
kept_by : (o : Option End) (b : Bool) (q r : Plan) → (if is_none o && b then Some q else None) ≡ Some r
    → (is_some o ≡ false) × (b ≡ true) × (q ≡ r)
kept_by o b q r e = grind arith

module _ (st : Stops) (p : Plan) (s : SessionState) (m : ℕ) where
  abbrev ends : ℕ → Option End
  ends = run_ends st p.goal s

  abbrev k : ℕ
  k = steps_of ends (min p.left m)

  pub kept : (r : Plan) → plan_after st p s k ≡ Some r
      → (is_some (ends k) ≡ false) × (nat_lt k p.left ≡ true) × (record p { goal = goal_after p.goal s.timed k; left = p.left - k } ≡ r)
  unfolding plan_after
  kept r e = kept_by (ends k) (nat_lt k p.left) _ r e

  lost : plan_after st p s k ≡ None → is_some (ends k) ≡ false → nat_lt k p.left ≡ false
  unfolding plan_after
  lost e going = grind arith

  -- where no plan is left, the steps are all of the run
  pub all_taken : plan_after st p s k ≡ None → steps_of ends p.left ≡ k
  all_taken e = as_far ends k p.left (omega (arith, steps_within ends (min p.left m))) (none_before ends (min p.left m))
      (λ going. let last = lost e going in let most = steps_within ends (min p.left m) in grind (arith, nat_tests))

  -- where it isn't over, the rest of the run makes it whole
  pub rest_steps : IsInTime s.timed → is_some (ends k) ≡ false
      → k + steps_of (run_ends (stops_after st p.goal s k) (goal_after p.goal s.timed k) (record s { timed = after s.timed k })) (p.left - k)
      ≡ steps_of ends p.left
  rest_steps h on =
      let full = all_of ends (min p.left m) on in
      let all : min p.left m + (p.left - k) ≡ p.left = omega (arith, full) in
      ap (λ n. k + n) (same_steps (run_ends (stops_after st p.goal s k) (goal_after p.goal s.timed k) (record s { timed = after s.timed k }))
      (λ i. ends (k + i)) (λ i. ap is_some (ends_later s k h st p.goal on i)) (p.left - k))
      ∙ (sym (joins ends (min p.left m) (p.left - k) on) ∙ ap (steps_of ends) all)
