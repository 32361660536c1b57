-- To audit: public contracts cite this.
-- A run in calls: what goes on after one of them (this project's own: docs/LAB.md).
use Rattle.std.specs.Prelude.{ℕ, ◌-◌, ◌&&◌, ◌||◌, Bool, true, false, if◌then◌else◌, is_none, nat_lt, Option, Some, None}
use Rattle.rv_monitor.specs.State.{SessionState}
use Rattle.rv_recording.specs.declared.until.End.{End}
use Rattle.rv_recording.specs.declared.until.End.TheVariants.{Limit}
use Rattle.rv_runs.specs.Ends.{Stops, goal_after, run_ends}
use Rattle.rv_runs.specs.declared.goal.Goal.{Goal}
use Rattle.rv_runs.specs.declared.goal.Goal.TheVariants as goal
use Rattle.rv_runs.specs.declared.plan.Plan.{Plan}

-- whether each step of a run is told
abbrev pub is_traced : Goal → Bool
is_traced goal.Trace = true
is_traced other = false

-- whether the console is told at the end of a run alone: of one of the monitor, and of a trace
abbrev pub tells_last : Plan → Bool
tells_last p = p.is_monitored || is_traced p.goal

-- the plan of a run after n steps: there is one exactly while the run isn't over and steps are left
unfoldable pub plan_after : Stops → Plan → SessionState → ℕ → Option Plan
plan_after st p s n =
    if is_none (run_ends st p.goal s n) && nat_lt n p.left
    then Some (record p { goal = goal_after p.goal s.timed n; left = p.left - n }) else None

-- and after `done` steps of a call that ended so, by what it goes on for then
abbrev pub rest_of : Plan → Goal → End → ℕ → Option Plan
rest_of p g Limit done =
    if nat_lt done p.left then Some (record p { goal = g; left = p.left - done }) else None
rest_of p g end done = None

-- what `c` goes on for after a run that went on for this: the same, but breakpoints alone after one that counted steps
abbrev pub resumed_by : Goal → Goal
resumed_by goal.Count = goal.Break
resumed_by goal.Trace = goal.Break
resumed_by other = other

-- after n steps of a run, which may be over: then breakpoints alone
abbrev pub resumes_after : Stops → Goal → SessionState → ℕ → Goal
resumes_after st g s n = if is_none (run_ends st g s n) then resumed_by (goal_after g s.timed n) else goal.Break

-- and after a call that ended so, by what the run goes on for then
abbrev pub resumes_of : Goal → End → Goal
resumes_of g Limit = resumed_by g
resumes_of g end = goal.Break
