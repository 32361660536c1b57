-- To audit: public contracts cite this.
-- What the commands that move the board, change breakpoints, give inputs or save answer, as values of the lab before
-- and after (this project's own: docs/LAB.md).
use Rattle.std.specs.Prelude.{◌≡◌, ℕ, zero, suc, ◌+◌, ◌-◌, ◌==◌, ◌&&◌, Bool, List, [], ◌∷◌, filter, if◌then◌else◌, is_none, is_some, length, map, max, min, nat_lt, not, codes, slice_get, slice_index, Option, Some, None, unwrap_or}
use Rattle.std.specs.FinSet as set
use Rattle.std.specs.List.{range_with_len}
use Rattle.std.specs.Option.{option_map, option_map_or}
use Rattle.rv_timeline.specs.Text.{list_text}
use Rattle.rv_hart.specs.Step.{step}
use Rattle.rv_hart.specs.declared.trap.Outcome.{Outcome}
use Rattle.rv_hart.specs.declared.trap.Outcome.TheVariants.{Trapped}
use Rattle.rv_monitor.specs.Commands as monitor
use Rattle.rv_monitor.specs.Commands.{command_in}
use Rattle.rv_monitor.specs.State.{with_break, with_due, without_break}
use Rattle.rv_monitor.specs.Stops.{may_step}
use Rattle.rv_monitor.specs.Views.{stop_text}
use Rattle.rv_board.specs.BoardState.{BoardState}
use Rattle.rv_recording.specs.Recording.{gone_back}
use Rattle.rv_recording.specs.Until.{watched_value}
use Rattle.rv_recording.specs.declared.until.Condition.TheVariants as condition
use Rattle.rv_recording.specs.declared.until.Watched.{Watched}
use Rattle.rv_recording.specs.declared.until.End.{End}
use Rattle.rv_recording.specs.declared.until.End.TheVariants as ends
use Rattle.rv_answers.specs.declared.answer.Answer.{Answer}
use Rattle.rv_answers.specs.declared.answer.Answer.TheVariants as answers
use Rattle.rv_answers.specs.declared.moves.Aim.{Aim}
use Rattle.rv_answers.specs.declared.moves.Aim.TheVariants as aim
use Rattle.rv_answers.specs.declared.moves.Change.{Change}
use Rattle.rv_answers.specs.declared.moves.Ending.{Ending}
use Rattle.rv_answers.specs.declared.moves.Ending.TheVariants as ending
use Rattle.rv_answers.specs.declared.moves.Step.{Step}
use Rattle.rv_answers.specs.declared.explained.Origin.{Origin}
use Rattle.rv_answers.specs.declared.values.RegisterValue.{RegisterValue}
use Rattle.rv_answers.specs.declared.values.Trap.{Trap}
use Rattle.rv_why.specs.Why.{explanation}
use Rattle.rv_why.specs.Origins.{origin, target_of}
use Rattle.rv_lab.specs.Answers.{given_condition, place_of, rows_answer, standing, trap_of, watch_on}
use Rattle.rv_commands.specs.declared.command.Command.{Command}
use Rattle.rv_lab.specs.Commands.{begun, gone_on, monitor_next, next_of, piece_most, piece_steps, planned, ready, run_of, stepped, stops_of, with_console, with_inputs, with_session, with_steps}
use Rattle.rv_runs.specs.Ends.{heeds, run_ends}
use Rattle.rv_runs.specs.Guards.{with_guard, without_guard}
use Rattle.rv_runs.specs.declared.guard.Guard.{Guard}
use Rattle.rv_runs.specs.Plans.{is_traced}
use Rattle.rv_lab.specs.Orders.{ordered}
use Rattle.rv_lab.specs.Saved.{steps_text}
use Rattle.rv_lab.specs.State.{LabState, board, listing, registers_of, sent, timed}
use Rattle.rv_lab.specs.Lines.{line_count}
use Rattle.rv_lab.specs.declared.lab.Next.{Next}
use Rattle.rv_lab.specs.declared.lab.Next.TheVariants as next
use Rattle.rv_runs.specs.Watches.{differs, with_watch, without_watch}
use Rattle.rv_lab.specs.Words.{line_command, most_steps}
use Rattle.rv_lab.specs.declared.lab.Reply.{Reply}
use Rattle.rv_lab.specs.declared.order.Order.{Order}
use Rattle.rv_lab.specs.declared.order.Order.TheVariants as orders
use Rattle.rv_runs.specs.declared.goal.Goal.{Goal}
use Rattle.rv_runs.specs.declared.goal.Goal.TheVariants as goal
use Rattle.rv_runs.specs.declared.plan.Plan.{Plan}
use Rattle.rv_lab.specs.declared.trail.Trail.{Trail}

-- ---- steps

-- the registers whose values differ, with their values now
unfoldable pub changes : (before now : List ℕ) → List RegisterValue
changes before now = map (λ r. record { register = r; value = slice_index now r })
    (filter (λ r. not (slice_index now r == slice_index before r)) (range_with_len 0 32))

-- the trap of a step that did that and left a lab, if it took one
unfoldable pub trap_in : LabState → Outcome → Option Trap
trap_in l (Trapped cause epc tval) = Some (trap_of l (record { cause = cause; epc = epc; tval = tval }) 1)
trap_in l did = None

-- what the next step of a lab does
unfoldable pub step_value : LabState → Step
step_value l = let new = with_steps 1 l in record {
  number = (timed new).taken;
  place = place_of l (board l).machine.pc;
  trap = trap_in new (step (with_due (timed l)).board.machine).1;
  changed = changes (registers_of (board l)) (registers_of (board new));
}

-- if it can be taken
abbrev pub next_step : LabState → Option Step
next_step l = if may_step l.recording.session then Some (step_value l) else None

-- what the next n steps do, or those that can be taken
unfoldable pub next_steps : ℕ → LabState → List Step
next_steps zero l = []
next_steps (suc n) l =
    if may_step l.recording.session then step_value l ∷ next_steps n (with_steps 1 l) else []

-- ---- runs

-- why a call of a run ends
abbrev pub end_of : Plan → LabState → End
end_of p l = unwrap_or (run_ends (stops_of l) p.goal l.recording.session (piece_steps p l)) ends.Limit

abbrev pub ending_of : End → Ending
ending_of ends.Halted = ending.Halted
ending_of ends.Reached = ending.Reached
ending_of ends.Breakpoint = ending.Breakpoint
ending_of ends.Limit = ending.Limit
ending_of ends.Stuck = ending.Stuck

-- the last trap
abbrev pub last_trap : LabState → Option Trap
last_trap l = option_map (λ t. trap_of l t 1) (slice_get (board l).traps (length (board l).traps - 1))

-- what a run went on for that left a lab
abbrev pub aim_of : LabState → Goal → Aim
aim_of l goal.Count = aim.Steps
aim_of l goal.Trace = aim.Steps
aim_of l goal.Break = aim.Breakpoint
aim_of l (goal.Out calls line) = aim.Return
aim_of l (goal.Mark calls) = aim.Mark
aim_of l (goal.Until condition.Trap) = aim.Trap (last_trap l)
aim_of l (goal.Until (condition.Console sent)) = aim.Console
aim_of l (goal.Until (condition.At address size)) = aim.Arrival
aim_of l (goal.Until (condition.Changed watched old)) = aim.Watch (watch_on (board l) watched)
aim_of l (goal.Until (condition.Compares watched cond exchanged value)) = aim.Watch (watch_on (board l) watched)

-- the monitor's word for why a run is over
abbrev pub stop_word : End → List ℕ
stop_word ends.Halted = codes "halted"
stop_word ends.Breakpoint = codes "break"
stop_word ends.Reached = codes "break"
stop_word _ = codes "limit"

-- what the last step changed of what is watched, with its values before and after
abbrev pub change_of : (before now : BoardState) → Watched → Change
change_of before now w = record { target = target_of w; before = watched_value before w; value = watched_value now w }

-- of a run, if it took one and stops there
unfoldable pub watch_changes : Goal → LabState → List Change
watch_changes g l = let before = (gone_back l.recording ((timed l).taken - 1)).session.timed.board in
    if heeds g && nat_lt l.before (timed l).taken
    then map (change_of before (board l)) (filter (differs before (board l)) l.watches) else []

-- what is answered of a run that is over, as the monitor does or as the lab does
unfoldable pub over_answer : (is_monitored : Bool) → Goal → End → LabState → Answer
over_answer is_monitored g end l =
    if is_monitored then answers.Monitor (stop_text (board l) (stop_word end)) else answers.Ended (record {
      ending = ending_of end;
      aim = aim_of l g;
      steps = (timed l).taken - l.before;
      changed = changes l.registers (registers_of (board l));
      watched = watch_changes g l;
      standing = standing l;
    })

-- what a call of a run answers that took such steps and ended so, by the lab that it left: of a trace its steps
abbrev pub call_answer : Plan → End → List Step → LabState → Answer
call_answer p end steps l =
    if is_traced p.goal then answers.Traced (record { steps = steps; ending = ending_of end; standing = standing l })
    else (if is_some l.plan then answers.Running (timed l).taken else over_answer p.is_monitored p.goal end l)

unfoldable pub run_answer : Plan → (old new : LabState) → Answer
run_answer p old new = call_answer p (end_of p old) (next_steps (piece_most p old) old) new

-- ---- other commands

-- what was done, for rvboard to repeat, with the name under which to save it
unfoldable pub saved_answer : Option (List ℕ) → LabState → Answer
saved_answer name l = answers.Saved (record {
  name = name;
  list = list_text (timed l).inputs;
  inputs = length (timed l).inputs;
  commands = steps_text 10 (timed l).taken;
  steps = (timed l).taken;
  limit = min (timed l).taken most_steps;
  pages = l.recording.pages;
})

-- the guards with that of a breakpoint, if it doesn't stop each run
abbrev pub guarded : Guard → List Guard → List Guard
guarded g gs = if is_none g.condition && (g.passes == 0) then without_guard g.address gs else with_guard g gs

-- `why` of a register or a word: its last write, and what `why` alone goes on with, which is the one before
abbrev pub origin_of : LabState → Trail → Origin
origin_of l t = origin l.recording t.watched t.steps

abbrev pub trail_after : Trail → Origin → Trail
trail_after t o = record t { steps = option_map_or (λ w. w.step - 1) o.write 0 }

-- ---- orders

-- what an order leaves, as a statement of the labs before and after it; what follows it; what it answers; and what the
-- run that it begins goes on for, if it begins one
pub record Deed : Type 1 where
  pub leaves : Type 0
  pub next : Next
  pub answer : Answer
  pub goal : Option Goal

-- of one after which another command follows, and of a run with its first call
abbrev pub more : Type 0 → Answer → Deed
more leaves answer = record { leaves = leaves; next = next.More; answer = answer; goal = None }

abbrev pub runs : Plan → (old new : LabState) → Deed
runs p old new = record {
  leaves = new ≡ gone_on p (begun old);
  next = next_of new;
  answer = run_answer p (begun old) new;
  goal = Some p.goal;
}

-- of a command of the monitor: its run goes on as the lab's do, and any other of its commands moves no board
abbrev pub monitors : Option Plan → Option Command → (old new : LabState) → Deed
monitors (Some p) c old new = runs p old new
monitors None c old new = let s = old.recording.session in let t = new.recording.session in record {
  leaves = (new ≡ with_session old t) × monitor.Leaves c s t;
  next = monitor_next c;
  answer = answers.Monitor (monitor.answer c s t);
  goal = None;
}

-- a row an order: a board that has halted takes no inputs
abbrev pub does : Order → (old new : LabState) → Deed
does orders.Once old new =
    more (new ≡ with_console (record (begun (record old { count = 1 })) { recording = stepped old.recording }))
    (option_map_or (λ s. answers.Stepped (record { step = s; standing = standing new })) (next_step old)
    (answers.Stuck (standing new)))
does (orders.Steps n) old new = runs (planned goal.Count n) (record old { count = n }) new
does (orders.Run p) old new = runs p old new
does (orders.Back n) old new = let to = (timed old).taken - n in
    more (new ≡ with_console (record (begun old) { recording = gone_back old.recording to; before = to }))
    (answers.Back (standing new))
does (orders.List e follows) old new =
    more (new ≡ record old { listed = min (e.after + e.count) (line_count (listing old)) }) (rows_answer e follows old)
does (orders.Break g) old new =
    more (new ≡ record (with_session old (with_break old.recording.session g.address)) { guards = guarded g old.guards })
    (answers.Break (record { place = place_of new g.address; condition = given_condition g; passes = g.passes }))
does (orders.Clear a) old new = let s = old.recording.session in
    more (new ≡ record (with_session old (without_break s a)) { guards = without_guard a old.guards })
    (answers.Cleared (record { place = place_of new a; was_there = set.contains s.breakpoints.addresses a }))
does (orders.Watch w) old new =
    more (new ≡ record old { watches = with_watch w old.watches }) (answers.Watch (watch_on (board new) w))
does (orders.Unwatch w) old new =
    more (new ≡ record old { watches = option_map_or (λ w. without_watch w old.watches) w [] })
    (answers.Unwatched (length old.watches - length new.watches))
does (orders.Give inputs) old new = let halt = (board new).machine.bus.halt in more (new ≡ with_inputs old inputs)
    (answers.Given (record { inputs = length inputs; steps = (timed new).taken; is_halted = is_some halt }))
does (orders.Monitor line) old new =
    let c = command_in line old.recording.session in monitors (run_of c old.recording.session.limit) c old new
does (orders.Save name) old new =
    record (more (new ≡ old) (saved_answer name old)) { next = if is_some name then next.Save else next.More }
does orders.Explain old new = more (new ≡ old) (answers.Explained (explanation old.recording))
does (orders.Origin t) old new =
    more (new ≡ record old { trail = Some (trail_after t (origin_of old t)) }) (answers.Origin (origin_of old t))
does orders.Quit old new = record (more (new ≡ old) answers.Nothing) { next = next.Quit }
does (orders.Answered a) old new = more (new ≡ old) a

abbrev pub Leaves : Order → LabState → LabState → Type 0
Leaves o old new = (does o old new).leaves

-- ---- lines and calls

-- what a line did with a lab that is ready for it
abbrev pub line_does : List ℕ → (old new : LabState) → Deed
line_does line old new = does (ordered line old) (ready (line_command line) old) new

abbrev pub Obeys : List ℕ → LabState → LabState → Type 0
Obeys line old new = (line_does line old new).leaves

-- what a lab replies to a line, by the lab before it and after it
abbrev pub reply_to : List ℕ → (old new : LabState) → Reply
reply_to line old new = let d = line_does line old new in
    record { next = d.next; answer = d.answer; from = sent old; to = max (sent old) new.told }

-- and to a call that goes on with the run that isn't over
abbrev pub reply_on : (old new : LabState) → Reply
reply_on old new = record {
  next = next_of new;
  answer = option_map_or (λ p. run_answer p old new) old.plan answers.Nothing;
  from = old.told;
  to = max old.told new.told;
}

-- what a line answers that only looks, by the lab alone
abbrev pub look_by : Order → LabState → Option Answer
look_by (orders.List e follows) l = Some (rows_answer e follows l)
look_by (orders.Origin t) l = Some (answers.Origin (origin_of l t))
look_by (orders.Answered a) l = Some a
look_by _ l = None
