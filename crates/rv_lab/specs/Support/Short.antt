-- Not to audit: private contracts alone cite this.
-- Calls of parts of a lab, and those that stopped short.
use Rattle.std.specs.Prelude.{◌≡◌, ℕ, zero, suc, List, [], Option, Some, is_some, if◌then◌else◌, nat_lt, Result, IfOk, OnErr, OnOk}
use Rattle.rv_base.specs.declared.memory.NoMemory.{NoMemory}
use Rattle.rv_timeline.specs.declared.input.Input.{Input}
use Rattle.rv_recording.specs.Recording.{RecordingState, with_timed}
use Rattle.rv_recording.specs.Until.{steps_of}
use Rattle.rv_monitor.specs.Commands.{command_in}
use Rattle.rv_monitor.specs.State.{SessionState, after}
use Rattle.rv_monitor.specs.Stops.{steps_between}
use Rattle.rv_answers.specs.declared.moves.Step.{Step}
use Rattle.rv_lab.specs.Commands.{gone_on, guards_by, next_of, run_of, stepped, with_inputs, with_session}
use Rattle.rv_runs.specs.Plans.{is_traced}
use Rattle.rv_lab.specs.Refusals.{Leads, RunsOut, StopsShort}
use Rattle.rv_lab.specs.Runs.{Leaves, does, next_steps, run_answer}
use Rattle.rv_lab.specs.declared.lab.Done.{Done}
use Rattle.rv_lab.specs.declared.order.Order.{Order}
use Rattle.rv_lab.specs.State.{LabState, timed}
use Rattle.rv_recording.specs.declared.until.End.{End}
use Rattle.rv_recording.specs.declared.until.End.TheVariants.{Halted, Limit, Stuck}
use Rattle.rv_runs.specs.declared.goal.Goal.{Goal}
use Rattle.rv_runs.specs.declared.plan.Plan.{Plan}

-- ---- orders

-- what came of an order: the lab that it leaves, what follows it and what it answers; or memory ran out in it
unfoldable pub Executes : Order → (old new : LabState) → Result Done NoMemory → Type 0
Executes o old new r = OnOk r (Leaves o old new) × IfOk r (λ d. d.next ≡ (does o old new).next)
    × IfOk r (λ d. d.answer ≡ (does o old new).answer) × OnErr r (RunsOut (does o old new).goal (Leaves o) old new)

abbrev pub GoesOnWith : Plan → LabState → LabState → Type 0
GoesOnWith p old new = new ≡ gone_on p old

-- and of a call that goes on with a run
unfoldable pub Moves : Plan → (old new : LabState) → Result Done NoMemory → Type 0
Moves p old new r = OnOk r (GoesOnWith p old new) × IfOk r (λ d. d.next ≡ next_of new)
    × IfOk r (λ d. d.answer ≡ run_answer p old new) × OnErr r (StopsShort (Some p.goal) (GoesOnWith p) old new)

-- the run that a line of the monitor asks for, if it does
abbrev pub monitored_run : List ℕ → SessionState → Option Plan
monitored_run line s = run_of (command_in line s) s.limit

-- ---- single steps

-- a recording after its next n steps, or those that can be taken
abbrev pub stepped_by : ℕ → RecordingState → RecordingState
stepped_by zero r = r
stepped_by (suc n) r = stepped_by n (stepped r)

abbrev pub Traced : ℕ → LabState → LabState → Type 0
Traced n old new = new ≡ record old { recording = stepped_by n old.recording }

-- why steps past any breakpoint are over, by the session that they left
abbrev pub end_now : SessionState → End
end_now s = if is_some s.timed.board.machine.bus.halt then Halted
    else (if nat_lt s.timed.taken s.limit then Limit else Stuck)

-- a recording is on the way from another to a third
abbrev pub IsOnWay : RecordingState → RecordingState → RecordingState → Type 0
IsOnWay old new done =
    Leads old.session.timed new.session.timed × Leads new.session.timed done.session.timed
    × (new ≡ with_timed old new.session.timed)

-- a lab was to be given inputs
abbrev pub Gives : List Input → LabState → LabState → Type 0
Gives inputs old new = new ≡ with_inputs old inputs

-- ---- calls of a run

-- the steps of a call that are told: at most n
abbrev pub told_steps : Goal → ℕ → LabState → List Step
told_steps g n l = if is_traced g then next_steps n l else []

-- steps of a run of at most some stopped short
abbrev pub StopsIn : Goal → (ℕ → Option End) → ℕ → LabState → LabState → Type 0
StopsIn g ends most old new =
    Leads (timed old) (timed new) × Leads (timed new) (after (timed old) (steps_of ends most))
    × (new ≡ record old { recording = with_timed old.recording (timed new); guards = guards_by g old (steps_between (timed old) (timed new)) })

-- a lab after steps of a run that goes on for something left a session
abbrev pub ran_to : Goal → LabState → SessionState → LabState
ran_to g l s = record (with_session l s) { guards = guards_by g l (steps_between (timed l) s.timed) }
