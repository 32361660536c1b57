-- To audit: public contracts cite this.
-- Where a run ends, by what it goes on for and by what stops it (this project's own: docs/LAB.md).
use Rattle.std.specs.Prelude.{ℕ, Bool, true, false, if◌then◌else◌, List, Option}
use Rattle.rv_monitor.specs.State.{SessionState, TimedState}
use Rattle.rv_recording.specs.Out.{open_at, out_ends}
use Rattle.rv_recording.specs.Until.{break_ends, step_ends, until_ends}
use Rattle.rv_recording.specs.declared.until.End.{End}
use Rattle.rv_recording.specs.declared.until.Watched.{Watched}
use Rattle.rv_runs.specs.Guards.{counted, passing}
use Rattle.rv_runs.specs.Marks.{mark_ends}
use Rattle.rv_runs.specs.Watches.{changes_at, watching}
use Rattle.rv_runs.specs.declared.goal.Goal.{Goal}
use Rattle.rv_runs.specs.declared.goal.Goal.TheVariants as goal
use Rattle.rv_runs.specs.declared.guard.Guard.{Guard}

-- what stops a run beside what it goes on for: breakpoints with these guards, and a change of what is watched; and the
-- marks up to one of which a run may go on
pub record Stops : Type 0 where
  pub guards : List Guard
  pub watches : List Watched
  pub marks : List ℕ

-- whether breakpoints and changes stop a run: only a number of steps goes past any of them
abbrev pub heeds : Goal → Bool
heeds goal.Count = false
heeds goal.Trace = false
heeds other = true

-- why a run from a session on would be over after some of its steps if no breakpoint had a guard and nothing were
-- watched, by what it goes on for
abbrev pub plain_ends : List ℕ → Goal → SessionState → ℕ → Option End
plain_ends ms goal.Count s = step_ends s
plain_ends ms goal.Trace s = step_ends s
plain_ends ms goal.Break s = break_ends s
plain_ends ms (goal.Out calls line) s = out_ends calls line s
plain_ends ms (goal.Mark calls) s = mark_ends ms calls s
plain_ends ms (goal.Until condition) s = until_ends condition s

-- why it would be over with these guards
abbrev pub guarded_ends : List ℕ → List Guard → Goal → SessionState → ℕ → Option End
guarded_ends ms gs g s n = if heeds g then passing gs s (plain_ends ms g s) n else plain_ends ms g s n

-- and why it is over, by what is watched
abbrev pub run_ends : Stops → Goal → SessionState → ℕ → Option End
run_ends st g s n =
    if heeds g then watching (changes_at st.watches s.timed n) (guarded_ends st.marks st.guards g s n)
    else guarded_ends st.marks st.guards g s n

-- what the run goes on for after n steps
abbrev pub goal_after : Goal → TimedState → ℕ → Goal
goal_after (goal.Out calls line) s n = goal.Out (open_at calls s n) line
goal_after (goal.Mark calls) s n = goal.Mark (open_at calls s n)
goal_after other s n = other

-- and the guards after them, whose hits are counted
abbrev pub guards_after : List ℕ → List Guard → Goal → SessionState → ℕ → List Guard
guards_after ms gs g s n = counted gs s (plain_ends ms g s) n
