-- To audit: public contracts cite this.
-- What each order leaves of a lab, by which a command line asks for something (this project's own: docs/LAB.md).
use Rattle.std.specs.Prelude.{◌≡◌, ℕ, ◌+◌, ◌-◌, ◌≤◌, ◌&&◌, true, false, if◌then◌else◌, is_some, max, min, List, fold, Option, Some, None, MatchOption, unwrap_or}
use Rattle.rv_timeline.specs.declared.input.Input.{Input}
use Rattle.rv_commands.specs.declared.command.Command as commands
use Rattle.rv_commands.specs.declared.command.Command.TheVariants as monitored
use Rattle.rv_monitor.specs.State.{SessionState, after, given}
use Rattle.rv_monitor.specs.Stops.{may_step}
use Rattle.rv_recording.specs.Recording.{RecordingState, with_timed}
use Rattle.rv_recording.specs.Until.{steps_of}
use Rattle.rv_runs.specs.Ends.{Stops, guards_after, run_ends}
use Rattle.rv_runs.specs.Plans.{plan_after, resumes_after, tells_last}
use Rattle.rv_lab.specs.State.{LabState, board, registers_of, sent, timed}
use Rattle.rv_runs.specs.declared.guard.Guard.{Guard}
use Rattle.rv_lab.specs.declared.lab.Next.{Next}
use Rattle.rv_lab.specs.declared.lab.Next.TheVariants as next
use Rattle.rv_runs.specs.declared.plan.Plan.{Plan}
use Rattle.rv_lab.specs.declared.trail.Trail.{Trail}
use Rattle.rv_runs.specs.declared.goal.Goal.{Goal}
use Rattle.rv_runs.specs.declared.goal.Goal.TheVariants as goal
use Rattle.rv_answers.specs.declared.command.Command.{Command}
use Rattle.rv_answers.specs.declared.command.Command.TheVariants.{Why}
use Rattle.rv_lab.specs.Words.{repeated}

-- ---- changes of a session

-- a lab with another session, in which only the board, its inputs or the breakpoints differ
abbrev pub with_session : LabState → SessionState → LabState
with_session l s = record l { recording = record l.recording { session = s } }

-- ---- runs

-- a run of the lab
abbrev pub planned : Goal → ℕ → Plan
planned goal most = record { goal = goal; left = most; is_monitored = false }

-- what stops a run beside what it goes on for
abbrev pub stops_of : LabState → Stops
stops_of l = record { guards = l.guards; watches = l.watches; marks = l.marks }

-- its guards after n steps of a run that goes on for that, whose hits are counted
abbrev pub guards_by : Goal → LabState → ℕ → List Guard
guards_by g l n = guards_after l.marks l.guards g l.recording.session n

-- the lab with n steps taken
abbrev pub with_steps : ℕ → LabState → LabState
with_steps n l = record l { recording = with_timed l.recording (after (timed l) n) }

-- the lab whose console was told
abbrev pub with_console : LabState → LabState
with_console l = record l { told = sent l }

-- the most steps of a call of a run, which is a piece, and those that it takes
abbrev pub piece_most : Plan → LabState → ℕ
piece_most p l = min p.left (max l.piece 1)

abbrev pub piece_steps : Plan → LabState → ℕ
piece_steps p l = steps_of (run_ends (stops_of l) p.goal l.recording.session) (piece_most p l)

-- the lab after that call, before its console is told
abbrev pub with_piece : Plan → LabState → LabState
with_piece p l =
    let s = l.recording.session in let n = piece_steps p l in
    record (with_steps n l) {
      guards = guards_by p.goal l n;
      plan = plan_after (stops_of l) p s n;
      resumes = resumes_after (stops_of l) p.goal s n;
    }

-- the lab after it: the console was told, unless that waits for the end
abbrev pub gone_on : Plan → LabState → LabState
gone_on p l =
    let done = with_piece p l in
    record done { told = if tells_last p && is_some done.plan then l.told else sent done }

-- the run that isn't over went on for a call, if there is one
abbrev pub GoesOn : LabState → LabState → Type 0
GoesOn old new = MatchOption old.plan (new ≡ old) (λ p. new ≡ gone_on p old)

-- a run in calls of any sizes, from a lab on to one where it is over
pub data InPieces (end : LabState) : LabState → Type 0 where
  ended : end.plan ≡ None → InPieces end end
  cut : (l : LabState) (p : Plan) (n : ℕ) → l.plan ≡ Some p → InPieces end (gone_on p (record l { piece = n }))
      → InPieces end l

-- ---- commands that move the board

-- a lab as a command that moves the board begins, which is compared with it
abbrev pub begun : LabState → LabState
begun l = record l { registers = registers_of (board l); before = (timed l).taken; told = sent l; resumes = goal.Break }

-- ---- a command

-- a lab that was given inputs
abbrev pub with_inputs : LabState → List Input → LabState
with_inputs l inputs = record l { recording = with_timed l.recording (fold given (timed l) inputs) }

-- the run of a command of the monitor that takes steps, of a session that takes at most so many in all
abbrev pub run_of : Option commands.Command → ℕ → Option Plan
run_of (Some (monitored.Step n)) limit = Some (record { goal = goal.Count; left = n; is_monitored = true })
run_of (Some (monitored.Go n)) limit =
    Some (record { goal = goal.Break; left = unwrap_or n limit; is_monitored = true })
run_of _ limit = None

-- a recording after its next step, if one can be taken
abbrev pub stepped : RecordingState → RecordingState
stepped r = if may_step r.session then with_timed r (after r.session.timed 1) else r

-- the lab before a command: it ends the run that isn't over, and what `why` follows, unless it is `why`
abbrev pub trail_before : Command → Option Trail → Option Trail
trail_before Why trail = trail
trail_before command trail = None

abbrev pub ready : Command → LabState → LabState
ready command l =
    record l { plan = None; trail = trail_before command l.trail; again = repeated command l.again }

-- ---- what follows

-- the run that isn't over, or another command
abbrev pub next_of : LabState → Next
next_of l = if is_some l.plan then next.Running else next.More

-- what follows a command of the monitor that takes no step
abbrev pub monitor_next : Option commands.Command → Next
monitor_next (Some monitored.Quit) = next.Quit
monitor_next c = next.More

-- ---- the steps of a call

-- a call took n steps at most
abbrev pub IsWithin : ℕ → LabState → LabState → Type 0
IsWithin n old new = (timed new).taken ≤ (timed old).taken + n
