-- What an order, and a line, asks for was done: what it leaves, in how many steps, and what is replied.
use Rattle.std.proofs.Common.{rules, ◌≡◌, ◌∙◌, ℕ, Bool, ◌+◌, ◌≤◌, List, [], ◌∷◌, refl, sym, ap, arith, inl, inr, ◌≢◌}
use Rattle.std.specs.Prelude.{fold, if◌then◌else◌, max, Option, Some, None, IfOk, OnErr, OnOk, Result, Err, Ok, slice_get, unwrap_or}
use Rattle.std.specs.Option.{option_map, option_map_or}
use Rattle.rv_base.specs.Words.{words}
use Rattle.rv_base.specs.declared.memory.NoMemory.{NoMemory}
use Rattle.rv_timeline.specs.declared.input.Input.{Input}
use Rattle.rv_commands.specs.declared.command.Command as commands
use Rattle.rv_operands.specs.Operands.{operand_text}
use Rattle.rv_commands.specs.declared.command.Command.TheVariants as monitored
use Rattle.rv_monitor.specs.Commands.{command_in, LeavesRefused}
use Rattle.rv_monitor.specs.Commands as monitor
use Rattle.rv_monitor.specs.State.{SessionState, TimedState, after, given}
use Rattle.rv_monitor.specs.declared.command.Next.{Next as Monitored}
use Rattle.rv_monitor.specs.declared.command.Next.TheVariants as told
use Rattle.rv_recording.specs.Recording.{RecordingState, with_timed}
use Rattle.rv_recording.proofs.Counting.{steps_within}
use Rattle.rv_answers.specs.declared.answer.Answer.{Answer}
use Rattle.rv_answers.specs.declared.answer.Answer.TheVariants as answers
use Rattle.rv_answers.specs.declared.command.Command.{Command}
use Rattle.rv_runs.proofs.Later.{taken_after}
use Rattle.rv_runs.proofs.Parts.{taken_due}
use Rattle.rv_runs.specs.declared.plan.Plan.{Plan}
use Rattle.rv_runs.specs.declared.goal.Goal.TheVariants as goal
use Rattle.rv_lab.specs.Runs.{Leaves, Obeys, does, line_does, monitors, reply_on, reply_to, run_answer}
use Rattle.rv_lab.specs.Commands.{GoesOn, IsWithin, begun, planned, run_of, with_session, next_of, ready, monitor_next}
use Rattle.rv_lab.specs.Support.Short.{Executes, GoesOnWith, Moves, monitored_run}
use Rattle.rv_lab.specs.Refusals.{Leads, RunsOut, StopsShort, by_hand, due, nowhere, steps}
use Rattle.rv_lab.specs.State.{LabState, setup, sent}
use Rattle.rv_lab.specs.declared.order.Order.{Order}
use Rattle.rv_lab.specs.declared.order.Order.TheVariants as orders
use Rattle.rv_lab.specs.Orders.{command_order, order_of, ordered}
use Rattle.rv_lab.specs.Words.{line_command}
use Rattle.rv_lab.specs.declared.lab.Done.{Done}
use Rattle.rv_lab.specs.declared.lab.Next.{Next}
use Rattle.rv_lab.specs.declared.lab.Reply.{Reply}
use Rattle.rv_lab.specs.declared.lab.Next.TheVariants as next

-- ---- the steps of a call

taken_given : (inputs : List Input) (s : TimedState) → (fold given s inputs).taken ≡ s.taken
taken_given [] s = refl
taken_given (x ∷ xs) s = taken_given xs (given s x) ∙ taken_due _

rises : (a b : TimedState) → Leads a b → a.taken ≤ b.taken
rises a _ nowhere = omega arith
rises a _ (steps s n t) = omega (arith, rises a s t, taken_after s n)
rises a _ (due s t) = omega (arith, rises a s t, taken_due s)
rises a _ (by_hand s input t) =
    let same : (given s input).taken ≡ s.taken = taken_due _ in omega (arith, rises a s t, same)

pub unmoved : (n : ℕ) (old new : LabState) → new ≡ old → IsWithin n old new
unmoved n old new e = search (rules, arith)

piece_within : (p : Plan) (old new : LabState) → GoesOnWith p old new → IsWithin (max old.piece 1) old new
piece_within p old new g = search (rules, arith, steps_within, taken_after)

step_within : (b : Bool) (r : RecordingState)
    → (if b then with_timed r (after r.session.timed 1) else r).session.timed.taken ≤ r.session.timed.taken + 1
step_within b r = search (rules, arith, taken_after)

looks_same : (c : Option commands.Command) (limit : ℕ) (s t : SessionState) → run_of c limit ≡ None
    → monitor.Leaves c s t → (t.timed ≡ s.timed) × (t.program ≡ s.program)
looks_same c limit s t e w = search (rules, arith)

monitor_within : (c : Option commands.Command) (limit : ℕ) (o : Option Plan) (old new : LabState) → o ≡ run_of c limit
    → (monitors o c old new).leaves → IsWithin (max old.piece 1) old new
monitor_within c limit None old new e w =
    omega (arith, ap (λ (s : TimedState). s.taken) (looks_same c limit old.recording.session _ (sym e) w.1).0)
monitor_within c limit (Some p) old new e w = piece_within p (begun old) new w

-- ---- an order

within : (o : Order) (old new : LabState) → Leaves o old new → IsWithin (max old.piece 1) old new
within (orders.Steps n) old new w = piece_within (planned goal.Count n) (begun (record old { count = n })) new w
within (orders.Run p) old new w = piece_within p (begun old) new w
within (orders.Monitor line) old new w = monitor_within (command_in line old.recording.session) old.recording.session.limit
    (monitored_run line old.recording.session) old new refl w
within _ old new w = search (rules, arith, step_within, taken_after, taken_given)

left_setup_by : (o : Order) (old new : LabState) → Leaves o old new → setup new ≡ setup old
left_setup_by o old new w = search (rules, arith)

out_setup_by : (o : Order) (old new : LabState) → RunsOut (does o old new).goal (Leaves o) old new → setup new ≡ setup old
out_setup_by o old new x = search (rules, arith, left_setup_by)

short_within : (o : Order) (old new : LabState) → RunsOut (does o old new).goal (Leaves o) old new
    → IsWithin (max old.piece 1) old new
short_within o old new s = search (rules, arith, unmoved, rises, within)

-- ---- a call of a run

piece_short_within : (p : Plan) (old new : LabState) → StopsShort (Some p.goal) (GoesOnWith p) old new
    → IsWithin (max old.piece 1) old new
piece_short_within p old new s = search (rules, arith, rises, piece_within)

-- by its parts
pub moved : (p : Plan) (old new : LabState) (r : Result Done NoMemory) → OnOk r (GoesOnWith p old new)
    → IfOk r (λ d. d.next ≡ next_of new) → IfOk r (λ d. d.answer ≡ run_answer p old new)
    → OnErr r (StopsShort (Some p.goal) (GoesOnWith p) old new) → Moves p old new r
unfolding Moves
moved p old new r leaves next answers short = (leaves, next, answers, short)

pub moved_setup : (p : Plan) (old new : LabState) (r : Result Done NoMemory) → Moves p old new r → setup new ≡ setup old
unfolding Moves
moved_setup p old new r m = search (rules, arith)

pub moved_within : (p : Plan) (old new : LabState) (r : Result Done NoMemory) → Moves p old new r
    → IsWithin (max old.piece 1) old new
unfolding Moves
moved_within p old new (Ok d) m = piece_within p old new m.0
moved_within p old new (Err why) m = piece_short_within p old new m.3

pub continued : {A : Type 0} (r : Result A NoMemory) (p : Plan) (old new : LabState) (why : NoMemory)
    → old.plan ≡ Some p → Moves p old new (Err why) → OnErr r (RunsOut (option_map (λ q. q.goal) old.plan) GoesOn old new)
unfolding Moves
continued (Ok a) p old new why e m = tt
continued (Err w) p old new why e m = rw e (inr (inr m.3))

pub started : (p : Plan) (old mid new : LabState) (r : Result Done NoMemory) → mid ≡ begun old → Moves p mid new r
    → Moves p (begun old) new r
started p old mid new r e m = rw e at m

-- ---- commands of the monitor that take no step

-- where memory runs out in one, nothing has changed
pub looks_refused : (c : Option commands.Command) (limit : ℕ) (s new : SessionState) → run_of c limit ≡ None
    → LeavesRefused c s new → new ≡ s
looks_refused c limit s new e r = search (rules, arith)

pub no_run : (c : commands.Command) (limit : ℕ) → ((n : ℕ) → c ≢ monitored.Step n)
    → ((n : Option ℕ) → c ≢ monitored.Go n) → None ≡ run_of (Some c) limit
no_run c limit a b = search (rules, arith)

-- ---- what follows

pub more_follows : (c : Option commands.Command) (m : Monitored) → (c ≡ Some monitored.Quit → m ≡ told.Quit)
    → m ≡ told.More → next.More ≡ monitor_next c
more_follows c m quits is = search (rules, arith)

pub quit_follows : (c : Option commands.Command) (m : Monitored) → (c ≢ Some monitored.Quit → m ≡ told.More)
    → m ≡ told.Quit → next.Quit ≡ monitor_next c
quit_follows c m more is = search (rules, arith)

-- ---- an order

pub as_known : (o known : Order) (old new : LabState) (r : Result Done NoMemory) → o ≡ known → Executes known old new r
    → Executes o old new r
as_known o known old new r e h = rw e h

-- one that stopped short where memory ran out
pub executed_short : (o : Order) (old new : LabState) (r : Result Done NoMemory) → OnOk r (Leaves o old new)
    → IfOk r (λ d. d.next ≡ (does o old new).next) → IfOk r (λ d. d.answer ≡ (does o old new).answer)
    → OnErr r (StopsShort (does o old new).goal (Leaves o) old new) → Executes o old new r
unfolding Executes
executed_short o old new (Ok d) leaves next answers short = (leaves, next, answers, tt)
executed_short o old new (Err why) leaves next answers short = (tt, tt, tt, inr (inr short))

-- one that leaves the lab as it was where memory runs out
pub kept : (o : Order) (old new : LabState) (r : Result Done NoMemory) → OnOk r (Leaves o old new)
    → IfOk r (λ d. d.next ≡ (does o old new).next) → IfOk r (λ d. d.answer ≡ (does o old new).answer)
    → OnErr r (new ≡ old) → Executes o old new r
unfolding Executes
kept o old new (Ok d) leaves next answers same = (leaves, next, answers, tt)
kept o old new (Err why) leaves next answers same = (tt, tt, tt, inl same)

-- a run
pub ran : (p : Plan) (old new : LabState) (r : Result Done NoMemory) → Moves p (begun old) new r
    → Executes (orders.Run p) old new r
unfolding Moves
ran p old new r m = executed_short (orders.Run p) old new r m.0 m.1 m.2 m.3

pub ran_steps : (n : ℕ) (old mid new : LabState) (r : Result Done NoMemory) → mid ≡ record old { count = n }
    → Moves (planned goal.Count n) (begun mid) new r → Executes (orders.Steps n) old new r
unfolding Moves
ran_steps n old mid new r e h = let m = rw e at h in executed_short (orders.Steps n) old new r m.0 m.1 m.2 m.3

-- what came of a command of the monitor, by the run that it asks for
abbrev MonitorCame : Option commands.Command → Option Plan → (old new : LabState) → Result Done NoMemory → Type 0
MonitorCame c o old new r = OnOk r (monitors o c old new).leaves × IfOk r (λ d. d.next ≡ (monitors o c old new).next)
    × IfOk r (λ d. d.answer ≡ (monitors o c old new).answer)
    × OnErr r (RunsOut (monitors o c old new).goal (λ a b. (monitors o c a b).leaves) old new)

pub by_run : (c : Option commands.Command) (o : Option Plan) (p : Plan) (old new : LabState) (r : Result Done NoMemory)
    → Some p ≡ o → Moves p (begun old) new r → MonitorCame c o old new r
unfolding Moves
by_run c o p old new (Ok d) e m = rw (← e) (m.0, m.1, m.2, tt)
by_run c o p old new (Err why) e m = rw (← e) (tt, tt, tt, inr (inr m.3))

pub by_look : (c : Option commands.Command) (o : Option Plan) (old new : LabState) (r : Result Done NoMemory) → o ≡ None
    → OnOk r (new ≡ with_session old new.recording.session)
    → OnOk r (monitor.Leaves c old.recording.session new.recording.session) → IfOk r (λ d. d.next ≡ monitor_next c)
    → IfOk r (λ d. d.answer ≡ answers.Monitor (monitor.answer c old.recording.session new.recording.session))
    → OnErr r (new ≡ old) → MonitorCame c o old new r
by_look c o old new (Ok d) e others leaves next answer same = rw e ((others, leaves), next, answer, tt)
by_look c o old new (Err why) e others leaves next answer same = rw e (tt, tt, tt, inl same)

pub monitor_came : (line : List ℕ) (old new : LabState) (r : Result Done NoMemory)
    → MonitorCame (command_in line old.recording.session) (monitored_run line old.recording.session) old new r
    → Executes (orders.Monitor line) old new r
unfolding Executes
monitor_came line old new (Ok d) m = (m.0, m.1, m.2, tt)
monitor_came line old new (Err why) m = (tt, tt, tt, m.3)

-- ---- a line

pub unread : (line : List ℕ) (c : Command) (old mid : LabState) (why : NoMemory) → c ≡ line_command line
    → mid ≡ ready c old → Executes (ordered line old) (ready (line_command line) old) mid (Err why)
unfolding Executes
unread line c old mid why is at = (tt, tt, tt, inl (at ∙ ap (λ (k : Command). ready k old) is))

pub executed_it : (line : List ℕ) (c : Command) (word text : List ℕ) (old mid new : LabState) (o : Order)
    (r : Result Done NoMemory) → c ≡ line_command line → word ≡ unwrap_or (slice_get (words line) 0) []
    → text ≡ operand_text line → mid ≡ ready c old → o ≡ command_order c word text mid → Executes o mid new r
    → Executes (ordered line old) (ready (line_command line) old) new r
unfolding order_of
executed_it line c word text old mid new o r is first rest at read h = search (rules, arith)

-- ---- what a call leaves

module _ (line : List ℕ) (old new : LabState) where
  -- what came of a line
  abbrev Came : Result Done NoMemory → Type 0
  Came r = Executes (ordered line old) (ready (line_command line) old) new r

  pub line_setup : (r : Result Done NoMemory) → Came r → setup new ≡ setup old
  unfolding Executes
  line_setup (Ok d) x = left_setup_by (ordered line old) (ready (line_command line) old) new x.0
  line_setup (Err why) x = out_setup_by (ordered line old) (ready (line_command line) old) new x.3

  pub line_within : (r : Result Done NoMemory) → Came r → IsWithin (max old.piece 1) old new
  unfolding Executes
  line_within (Ok d) x = within (ordered line old) (ready (line_command line) old) new x.0
  line_within (Err why) x = short_within (ordered line old) (ready (line_command line) old) new x.3

  pub line_left : (d : Done) → Came (Ok d) → Obeys line old new
  unfolding Executes
  line_left d x = x.0

  pub line_short : {A : Type 0} (r : Result A NoMemory) (why : NoMemory) → Came (Err why)
      → OnErr r (RunsOut (line_does line old new).goal (Leaves (ordered line old)) (ready (line_command line) old) new)
  unfolding Executes
  line_short (Ok a) why x = tt
  line_short (Err w) why x = x.3

  pub replied : (d : Done) (from : ℕ) → Came (Ok d) → from ≡ sent old
      → ◌≡◌ {A = Reply} (record { next = d.next; answer = d.answer; from = from; to = max from new.told })
      (reply_to line old new)
  unfolding Executes
  replied d from x begins = rw (begins, x.1, x.2) refl

-- ---- replies, by their parts

pub replied_on : (old new : LabState) (n : Next) (a : Answer) (from : ℕ) → n ≡ next_of new
    → a ≡ option_map_or (λ p. run_answer p old new) old.plan answers.Nothing → from ≡ old.told
    → ◌≡◌ {A = Reply} (record { next = n; answer = a; from = from; to = max from new.told }) (reply_on old new)
replied_on old new n a from next answer begins = search (rules, arith)
