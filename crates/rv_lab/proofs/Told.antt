-- What commands answered.
use Rattle.std.proofs.Common.{rules, ◌≡◌, ◌∙◌, ℕ, zero, suc, ◌-◌, ◌<◌, Bool, false, List, [], ◌∷◌, ◌++◌, refl, sym, ap, append_assoc, arith}
use Rattle.std.specs.Prelude.{Option, Some, None, ◌&&◌, is_some, OnOk, OnErr, Result, Ok, if◌then◌else◌}
use Rattle.rv_base.specs.declared.memory.NoMemory.{NoMemory}
use Rattle.rv_hart.specs.declared.trap.Outcome.{Outcome}
use Rattle.rv_hart.specs.Step.{step}
use Rattle.rv_monitor.specs.State.{after}
use Rattle.rv_monitor.specs.Stops.{TakesStep, steps_between}
use Rattle.rv_recording.specs.Recording.{RecordingState}
use Rattle.rv_recording.specs.declared.until.End.{End}
use Rattle.rv_answers.specs.declared.answer.Answer.{Answer}
use Rattle.rv_answers.specs.declared.answer.Answer.TheVariants as answers
use Rattle.rv_answers.specs.declared.moves.Aim.{Aim}
use Rattle.rv_answers.specs.declared.moves.Change.{Change}
use Rattle.rv_answers.specs.declared.moves.Ending.{Ending}
use Rattle.rv_answers.specs.declared.moves.Step.{Step}
use Rattle.rv_answers.specs.declared.values.Place.{Place}
use Rattle.rv_answers.specs.declared.values.RegisterValue.{RegisterValue}
use Rattle.rv_answers.specs.declared.values.Standing.{Standing}
use Rattle.rv_runs.specs.Plans.{tells_last}
use Rattle.rv_runs.specs.declared.goal.Goal.{Goal}
use Rattle.rv_runs.specs.declared.goal.Goal.TheVariants as goal
use Rattle.rv_runs.specs.declared.plan.Plan.{Plan}
use Rattle.rv_runs.proofs.Later.{taken_after}
use Rattle.rv_runs.proofs.Parts.{on_err}
use Rattle.rv_lab.specs.Answers.{place_of, standing}
use Rattle.rv_lab.specs.Commands.{begun, gone_on, guards_by, piece_most, piece_steps, stepped, with_piece, with_steps}
use Rattle.rv_lab.specs.Refusals.{StopsShort, nowhere}
use Rattle.rv_lab.specs.Runs.{aim_of, call_answer, changes, does, end_of, ending_of, next_step, next_steps, over_answer, run_answer, step_value, trap_in, watch_changes}
use Rattle.rv_lab.specs.State.{LabState, board, registers_of, sent, timed}
use Rattle.rv_lab.specs.declared.order.Order.TheVariants as orders
use Rattle.rv_lab.specs.Support.Short.{GoesOnWith, IsOnWay, Traced, told_steps}
use Rattle.rv_lab.proofs.Runs.{told_call, traced_last, to_steps}

-- ---- runs

pub answered : (p : Plan) (end : End) (steps : List Step) (old new : LabState) (a : Answer) → end ≡ end_of p old
    → steps ≡ told_steps p.goal (piece_most p old) old → a ≡ call_answer p end steps new → a ≡ run_answer p old new
unfolding run_answer
answered p end steps old new a ended rows h = search (rules, arith)

-- memory ran out after a whole run
pub over_short : {A : Type 0} (r : Result A NoMemory) (p : Plan) (waits : Bool) (old mid new : LabState)
    → mid ≡ with_piece p old → waits ≡ tells_last p
    → new ≡ record mid { told = if waits && is_some mid.plan then mid.told else sent mid }
    → new.plan ≡ None → OnErr r (StopsShort (Some p.goal) (GoesOnWith p) old new)
over_short r p waits old mid new is w told none =
    let all : new ≡ gone_on p old = told_call p waits old mid new is w told in
    let last : (gone_on p old).plan ≡ None = sym (ap (λ (l : LabState). l.plan) all) ∙ none in
    let n = piece_steps p old in
    let between : n ≡ steps_between (timed old) (after (timed old) n) = omega (arith, taken_after (timed old) n) in
    on_err r (StopsShort (Some p.goal) (GoesOnWith p) old new) (rw all (
      gone_on p old,
      refl,
      to_steps (timed old) _,
      nowhere,
      ap (λ (q : Option Plan). record (gone_on p old) { plan = q }) last
          ∙ ap (λ (i : ℕ). record (gone_on p old) { plan = None; guards = guards_by p.goal old i }) between,
    ))

-- ---- a step

-- a lab of which the board and the source are the same does the same
abbrev other : LabState → List ℕ → (before told count : ℕ) → Option Plan → Goal → LabState
other l registers before told count plan resumes =
    record l { registers = registers; before = before; told = told; count = count; plan = plan; resumes = resumes }

same_value : (l : LabState) (rs : List ℕ) (b t c : ℕ) (p : Option Plan) (g : Goal) → step_value (other l rs b t c p g) ≡ step_value l
unfolding step_value trap_in place_of
same_value l rs b t c p g = refl

same_step : (l : LabState) (rs : List ℕ) (b t c : ℕ) (p : Option Plan) (g : Goal) → next_step (other l rs b t c p g) ≡ next_step l
same_step l rs b t c p g = search (rules, arith, same_value)

same_steps : (n : ℕ) (l : LabState) (rs : List ℕ) (b t c : ℕ) (p : Option Plan) (g : Goal)
    → next_steps n (other l rs b t c p g) ≡ next_steps n l
unfolding next_steps
same_steps zero l rs b t c p g = refl
same_steps (suc n) l rs b t c p g =
    search (rules, arith, same_value, (same_steps n (with_steps 1 l) rs b t c p g))

pub did_step : (old counted mid new : LabState) (s : Option Step) (v : Step) (st : Standing)
    → counted ≡ record old { count = 1 } → mid ≡ begun counted → s ≡ next_step mid → s ≡ Some v → st ≡ standing new
    → answers.Stepped (record { step = v; standing = st }) ≡ (does orders.Once old new).answer
did_step old counted mid new s v st one e is some stands = search (rules, arith, same_step)

pub no_step : (old counted mid new : LabState) (s : Option Step) (st : Standing) → counted ≡ record old { count = 1 }
    → mid ≡ begun counted → s ≡ next_step mid → s ≡ None → st ≡ standing new
    → answers.Stuck st ≡ (does orders.Once old new).answer
no_step old counted mid new s st one e is none stands = search (rules, arith)

-- ---- what a step did

pub took_one : (old inside : LabState) (q : RecordingState) (r : Option Outcome) (o : Outcome) → inside ≡ old
    → r ≡ Some o → TakesStep inside.recording.session q.session (Ok r)
    → q ≡ record inside.recording { session = q.session } → (v : Step) (place : Place) (before : List ℕ)
    → place ≡ place_of old (board old).machine.pc → before ≡ registers_of (board old) → v ≡ record {
      number = q.session.timed.taken;
      place = place;
      trap = trap_in (record inside { recording = q }) o;
      changed = changes before (registers_of q.session.timed.board);
    } → Some v ≡ next_step old
unfolding step_value
took_one old inside q r o same did took others v place before at from is = search (rules, arith)

-- a step that was taken is on the way to itself
pub took_wholly : (inside old new : RecordingState) (r : Option Outcome) (o : Outcome) → inside ≡ old → r ≡ Some o
    → TakesStep inside.session new.session (Ok r) → new ≡ record inside { session = new.session }
    → IsOnWay old new (stepped old)
took_wholly inside old new r o same did took others = search (rules, arith, to_steps, nowhere)

-- a step that was taken leaves a lab on the way to itself
pub wholly : (old new : LabState) → new ≡ record old { recording = stepped old.recording }
    → IsOnWay old.recording new.recording (stepped old.recording)
wholly old new e = search (rules, arith, to_steps, nowhere)

-- ---- a trace

pub no_steps : (n : ℕ) (l : LabState) (xs : List Step) → n ≡ 0 → xs ≡ xs ++ next_steps n l
unfolding next_steps
no_steps n l xs e = search (rules, arith)

pub last_steps : (n : ℕ) (l : LabState) (xs : List Step) → None ≡ next_step l → xs ≡ xs ++ next_steps n l
unfolding next_steps
last_steps n l xs e = search (rules, arith)

pub trace_ends : (n : ℕ) (old new : LabState) → 0 < n → new ≡ record old { recording = stepped old.recording }
    → None ≡ next_step old → Traced n old new
trace_ends n old new h e none = search (rules, arith, traced_last)

pub more_steps : {A E : Type 0} (r : Result A E) (n : ℕ) (old mid : LabState) (v : Step) (xs ys zs : List Step) → 0 < n
    → mid ≡ record old { recording = stepped old.recording } → Some v ≡ next_step old → ys ≡ xs ++ v ∷ []
    → OnOk r (zs ≡ ys ++ next_steps (n - 1) mid) → OnOk r (zs ≡ xs ++ next_steps n old)
unfolding next_steps
more_steps r zero old mid v xs ys zs h e some g f = search (rules, arith)
more_steps r (suc n) old mid v xs ys zs h e some g f = search (rules, arith, append_assoc)

-- the steps of a call that are told, without the plan
pub told_of : (g : Goal) (n : ℕ) (old at_first : LabState) → at_first ≡ record old { plan = None; resumes = goal.Break }
    → told_steps g n at_first ≡ told_steps g n old
told_of g n old at_first e = search (rules, arith, same_steps)

-- ---- a run that is over

abbrev ended : Ending → Aim → ℕ → List RegisterValue → List Change → Standing → Answer
ended en a n changed ws st =
    answers.Ended (record { ending = en; aim = a; steps = n; changed = changed; watched = ws; standing = st })

pub over_said : (is_monitored : Bool) (g : Goal) (end : End) (l : LabState) (en : Ending) (a : Aim) (n : ℕ)
    (before now : List ℕ) (changed : List RegisterValue) (ws : List Change) (st : Standing) → is_monitored ≡ false
    → en ≡ ending_of end → a ≡ aim_of l g → n ≡ (timed l).taken - l.before → before ≡ l.registers → now ≡ registers_of (board l)
    → changed ≡ changes before now → ws ≡ watch_changes g l → st ≡ standing l → ended en a n changed ws st
    ≡ over_answer is_monitored g end l
unfolding over_answer
over_said is_monitored g end l en a n before now changed ws st m ends aims took was is c watched stands =
    search (rules, arith)
