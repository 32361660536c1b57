-- Not to audit: private contracts alone cite this.
-- Parts of a run: what came of one, where it would end if it heeded no mark or each change, and what comes of the end of
-- a part.
use Rattle.std.specs.Prelude.{◌≡◌, ℕ, ◌-◌, ◌&&◌, Bool, true, false, if◌then◌else◌, nat_lt, List, [], map, Option, Some, None, option_and_then, Result, Ok, Err, IfOk, OnErr}
use Rattle.std.specs.FinSet as set
use Rattle.std.specs.Option.{option_map_or}
use Rattle.rv_base.specs.declared.memory.NoMemory.{NoMemory}
use Rattle.rv_board.specs.BoardState.{BoardState}
use Rattle.rv_monitor.specs.State.{SessionState}
use Rattle.rv_monitor.specs.Stops.{steps_between}
use Rattle.rv_recording.specs.Out.{out_ends}
use Rattle.rv_recording.specs.Recording.{RecordingState}
use Rattle.rv_recording.specs.Refused.{IsRefusedIn}
use Rattle.rv_recording.specs.Until.{HasRun}
use Rattle.rv_recording.specs.declared.until.End.{End}
use Rattle.rv_recording.specs.declared.until.End.TheVariants.{Breakpoint, Halted, Limit, Reached, Stuck}
use Rattle.rv_recording.specs.declared.until.Watched.{Watched}
use Rattle.rv_runs.specs.Ends.{Stops, goal_after, guarded_ends, guards_after, plain_ends}
use Rattle.rv_runs.specs.Guards.{end_here, is_met}
use Rattle.rv_runs.specs.Marks.{is_mark}
use Rattle.rv_runs.specs.Watches.{changes_at, watching}
use Rattle.rv_runs.specs.declared.goal.Goal.{Goal}
use Rattle.rv_runs.specs.declared.goal.Goal.TheVariants as goal
use Rattle.rv_runs.specs.declared.guard.Guard.{Guard}

-- ---- what came of steps of a run

-- what a run goes on with: the guards, and what it goes on for
pub record Aim : Type 0 where
  pub guards : List Guard
  pub goal : Goal

-- after n steps
abbrev pub aim_after : List ℕ → Aim → SessionState → ℕ → Aim
aim_after ms a s n = record { guards = guards_after ms a.guards a.goal s n; goal = goal_after a.goal s.timed n }

abbrev pub goal_at : Goal → SessionState → ℕ → Goal
goal_at g s n = goal_after g s.timed n

-- what came of at most `most` steps of a run, which went on with `a` before them and goes on with `b` after them: it is
-- over or ended where `ends` says, or memory ran out in it; and only the session changed
pub record Ran {A : Type 0} (ends : A → SessionState → ℕ → Option End) (later : A → SessionState → ℕ → A) (most : ℕ)
    (a b : A) (old new : RecordingState) (result : Result End NoMemory) : Type 0 where
  pub ok : IfOk result (HasRun (ends a old.session) most old.session new.session)
  pub err : OnErr result (IsRefusedIn (ends a old.session) most old.session new.session)
  pub aim : b ≡ later a old.session (steps_between old.session.timed new.session.timed)
  pub others : new ≡ record old { session = new.session }

-- how steps ended of which is told besides whether they changed something
abbrev pub ended : Result (End × Bool) NoMemory → Result End NoMemory
ended (Ok told) = Ok told.0
ended (Err e) = Err e

-- ---- where a run would end

-- why a run from a session on would be over after some of its steps if it heeded no mark, and no breakpoint had a guard
abbrev pub bare_ends : Goal → SessionState → ℕ → Option End
bare_ends (goal.Mark calls) s = out_ends calls None s
bare_ends g s = plain_ends [] g s

-- with these marks and its guards
abbrev pub past_ends : List ℕ → Aim → SessionState → ℕ → Option End
past_ends ms a s = guarded_ends ms a.guards a.goal s

-- and if it stopped at each change of what is watched
abbrev pub watched_ends : Stops → Goal → SessionState → ℕ → Option End
watched_ends st g s n = watching (changes_at st.watches s.timed n) (guarded_ends st.marks st.guards g s n)

abbrev pub watch_ends : List Watched → List ℕ → Aim → SessionState → ℕ → Option End
watch_ends ws ms a s = watched_ends (record { guards = a.guards; watches = ws; marks = ms }) a.goal s

-- ---- the end of a part

-- why it is over after a step that ended so, of `left` at most, by whether that changed something, if it is
abbrev pub goes_with : Bool → End → Bool
goes_with false Limit = true
goes_with changes end = false

abbrev pub ends_with : Bool → End → End
ends_with true Halted = Halted
ends_with true end = Reached
ends_with false end = end

abbrev pub stop_here : Bool → End → ℕ → Option End
stop_here changes end left =
    if goes_with changes end && nat_lt 1 left then None else Some (ends_with changes end)

-- a guard after a step to where a board stands, which may be a hit
abbrev pub hit_once : BoardState → Guard → Guard
hit_once b g = if is_met g b then record g { passes = g.passes - 1 } else g

-- the guards after a run came to one of its ends where a session stands
abbrev pub hit_here : List Guard → SessionState → End → List Guard
hit_here gs s Breakpoint = map (hit_once s.timed.board) gs
hit_here gs s end = gs

-- why a run up to a mark is over where one out of its calls is, where a session stands
abbrev pub mark_here : List ℕ → SessionState → End → Option End
mark_here ms s Reached = let pc = s.timed.board.machine.pc in
    if is_mark ms pc then Some Reached
    else (if set.contains s.breakpoints.addresses pc then Some Breakpoint
    else (if nat_lt s.timed.taken s.limit then None else Some Stuck))
mark_here ms s end = Some end

-- why a run without guards is over where it would be if it heeded no mark
abbrev pub plain_here : List ℕ → Goal → SessionState → End → Option End
plain_here ms (goal.Mark calls) s end = mark_here ms s end
plain_here ms g s end = Some end

-- and why one with guards is, with the guards after it
abbrev pub past_here : List ℕ → Aim → SessionState → End → Option End
past_here ms a s end = option_and_then (end_here a.guards s) (plain_here ms a.goal s end)

abbrev pub guards_here : List ℕ → Aim → SessionState → End → List Guard
guards_here ms a s end = option_map_or (hit_here a.guards s) (plain_here ms a.goal s end) a.guards
