-- To audit: public contracts cite this.
-- What a command line asks for, by its words and the lab as it stands (this project's own: docs/LAB.md).
use Rattle.std.specs.Prelude.{ℕ, ◌+◌, ◌-◌, ◌/◌, ◌==◌, ◌&&◌, false, true, List, [], ◌∷◌, if◌then◌else◌, is_none, is_some, length, drop, nat_le, slice_get, slice_index_or, codes, Option, Some, None, option_and_then, unwrap_or}
use Rattle.std.specs.List.{position}
use Rattle.std.specs.Option.{option_map, option_map_or}
use Rattle.std.specs.Str.{bytes_eq}
use Rattle.rv_base.specs.Words.{words}
use Rattle.rv_timeline.specs.Timed.{driven}
use Rattle.rv_timeline.specs.declared.input.Input.{Input}
use Rattle.rv_recording.specs.Recording.{last_step}
use Rattle.rv_asm.specs.Lines.{address_of, bytes_of}
use Rattle.rv_recording.specs.declared.out.Span.{Span}
use Rattle.rv_recording.specs.declared.until.Condition.{Condition}
use Rattle.rv_recording.specs.declared.until.Condition.TheVariants as condition
use Rattle.rv_recording.specs.declared.until.Watched.{Watched}
use Rattle.rv_why.specs.Origins.{last_sought}
use Rattle.rv_why.specs.Taken.{first_state}
use Rattle.rv_why.specs.declared.writes.Sought.TheVariants as sought
use Rattle.rv_operands.specs.Operands.{address, break_place, bytes_inputs, followed, leading, line_number, only_of, operand_text, trimmed, without_last}
use Rattle.rv_answers.specs.Commands.{command_named}
use Rattle.rv_answers.specs.declared.answer.Answer.{Answer}
use Rattle.rv_answers.specs.declared.answer.Answer.TheVariants as answers
use Rattle.rv_answers.specs.declared.answer.Why.TheVariants as why
use Rattle.rv_answers.specs.declared.command.Command.{Command}
use Rattle.rv_answers.specs.declared.command.Command.TheVariants.{Step, Over, NextC, Moves, Break, Clear, Watch, Unwatch, Receive, Line, Save, Monitor, Why, Help, Quit, StepOnce, Again, Unknown, TooLong}
use Rattle.rv_answers.specs.declared.command.Command.TheVariants as command
use Rattle.rv_answers.specs.declared.command.Move.TheVariants.{Go, Finish, Until, Trace, Back}
use Rattle.rv_lab.specs.Answers.{breakpoints_answer, look_answer, refused, watches_of}
use Rattle.rv_lab.specs.Commands.{planned, ready}
use Rattle.rv_lab.specs.Lines.{line_at}
use Rattle.rv_lab.specs.State.{LabState, board, listing, timed}
use Rattle.rv_runs.specs.Watches.{is_same}
use Rattle.rv_lab.specs.Words.{count_of, line_command, most_steps, passes, usual_steps}
use Rattle.rv_lab.specs.declared.order.Order.{Order}
use Rattle.rv_lab.specs.declared.order.Order.TheVariants as orders
use Rattle.rv_runs.specs.declared.goal.Goal.TheVariants as goal

-- what some words ask for, or that they are refused
abbrev pub or_refused : {A : Type 0} → Option A → (A → Order) → Answer → Order
or_refused read order refusal = option_map_or order read (orders.Answered refusal)

-- `l`: round pc's line, or the line of a word, by its number or at an address; 11 lines, or as many as the next
-- word says
abbrev pub list_round : List (List ℕ) → ℕ → Order
list_round more line = or_refused (count_of 11 1000 more)
    (λ n. orders.List (record { after = line - n / 2 - 1; count = n }) false) (refused command.List [] why.NoCount)

unfoldable pub list_order : List (List ℕ) → LabState → Order
list_order [] l = list_round [] (unwrap_or (line_at (listing l) (board l).machine.pc) 1)
list_order (word ∷ more) l = option_map_or (list_round more) (line_number word)
    (option_map_or (λ a. or_refused (line_at (listing l) a) (list_round more) (refused command.List [] (why.NoLine a)))
    (address (listing l) (board l) word) (orders.Answered (refused command.List word why.NoAddress)))

-- `b` and `d` of the address of a breakpoint
abbrev pub place_order : Command → (ℕ → Order) → (word : List ℕ) → LabState → Order
place_order c order word l = or_refused (break_place (listing l) (board l) word) order
    (refused c word (if is_some (line_number word) then why.NoBytesThere else why.NoAddress))

-- the condition of `b` as it was given: what stands between `if` and the words that follow it, which are two if any
abbrev pub condition_text : List ℕ → List (List ℕ) → List ℕ
condition_text text [] = trimmed (operand_text (operand_text text))
condition_text text (word ∷ more) = trimmed (without_last (without_last (operand_text (operand_text text))))

-- a breakpoint at a word, with a condition or none, by the words that follow it
unfoldable pub break_at : (text word : List ℕ) → LabState → Option Condition → (given : List ℕ) → List (List ℕ) → Order
break_at text word l c given more = or_refused (passes more) (λ n. place_order Break
    (λ a. orders.Break (record { address = a; condition = c; text = given; passes = n })) word l)
    (refused Break text why.NoHits)

-- with a condition, if there is one that may hold of a board whatever its last step did: any but that it trapped
unfoldable pub guard_order : (text word : List ℕ) → LabState → Option Condition × List (List ℕ) → Order
guard_order text word l (None, more) = orders.Answered (refused Break text why.NoCondition)
guard_order text word l (Some condition.Trap, more) = orders.Answered (refused Break text why.NoCondition)
guard_order text word l (Some c, more) = break_at text word l (Some c) (condition_text text more) more

-- `b`: all breakpoints; or one at a word, perhaps with a condition after `if`
unfoldable pub break_order : List ℕ → List (List ℕ) → LabState → Order
break_order text [] l = orders.Answered (breakpoints_answer l)
break_order text (word ∷ []) l = break_at text word l None [] []
break_order text (word ∷ second ∷ more) l =
    if bytes_eq second (codes "if") then guard_order text word l (leading (listing l) (board l) more)
    else break_at text word l None [] (second ∷ more)

-- one register or word more that is watched, of 16 at most
abbrev pub watch_one : Watched → LabState → Order
watch_one w l = if is_none (position (is_same w) l.watches) && nat_le 16 (length l.watches)
    then orders.Answered (refused Watch [] why.TooMany) else orders.Watch w

-- `watch` and `unwatch`: all, or one
unfoldable pub watched_order : Command → (all : Order) → (Watched → Order) → List (List ℕ) → LabState → Order
watched_order c all one [] l = all
watched_order c all one (word ∷ []) l =
    or_refused (followed (listing l) (board l) word) one (refused c word why.NoAddress)
watched_order c all one _ l = orders.Answered (refused c [] why.NotOne)

-- inputs before the next step, if there are some
abbrev pub give_order : List Input → Answer → Order
give_order [] refusal = orders.Answered refusal
give_order inputs refusal = orders.Give inputs

unfoldable pub save_order : List ℕ → List (List ℕ) → Order
save_order text [] = orders.Save None
save_order text (name ∷ []) = orders.Save (Some name)
save_order text _ = orders.Answered (refused Save text why.NotOne)

unfoldable pub help_order : List ℕ → List (List ℕ) → Order
help_order text [] = orders.Answered (answers.Help None)
help_order text ws = or_refused (option_and_then command_named (only_of ws)) (λ c. orders.Answered (answers.Help (Some c)))
    (refused Help text why.NoCommand)

-- `s`: a single step, or a run
abbrev pub steps_order : ℕ → Order
steps_order n = if n == 1 then orders.Once else orders.Steps n

-- `next`: past the line at pc, if there is one, and past each call that it makes
abbrev pub here : LabState → Option Span
here l = let code = listing l in option_and_then
    (λ n. option_map (λ a. record { address = a; size = length (bytes_of code n) }) (address_of code n))
    (line_at code (board l).machine.pc)

abbrev pub next_order : LabState → Order
next_order l = orders.Run (planned (goal.Out 0 (here l)) usual_steps)

-- `nextc`: to the next place of the C source, past each call
unfoldable pub nextc_order : LabState → Order
nextc_order l = if length l.marks == 0 then orders.Answered (refused NextC [] why.NoMarks)
    else orders.Run (planned (goal.Mark 0) usual_steps)

-- what an empty line asks for: the last step or list command again
abbrev pub again_order : Command → LabState → Order
again_order Step l = steps_order l.count
again_order StepOnce l = orders.Once
again_order Over l = next_order l
again_order NextC l = nextc_order l
again_order command.List l = orders.List (record { after = l.listed; count = 11 }) true
again_order _ l = orders.Answered answers.Nothing

-- `u`: some steps back, or back to the last step before now after which a condition held
unfoldable pub back_until : List ℕ → LabState → Option Condition × List (List ℕ) → Order
back_until text l (Some c, []) =
    or_refused (last_sought (sought.Met c) (first_state l.recording) ((timed l).taken - 1))
    (λ n. orders.Back ((timed l).taken - (n + 1))) (refused (Moves Back) text why.NeverMet)
back_until text l _ = orders.Answered (refused (Moves Back) text why.NoCondition)

unfoldable pub back_order : List ℕ → List (List ℕ) → LabState → Order
back_order text ws l = if bytes_eq (slice_index_or ws 0 []) (codes "until")
    then back_until text l (leading (listing l) (board l) (drop 1 ws)) else or_refused
    (count_of ((timed l).taken - l.before) last_step ws) (λ n. orders.Back n) (refused (Moves Back) text why.NoSteps)

-- `why`: a trap, or what `why` follows; or the last write of what a word names, among all steps, of which there are
-- `last_step` at most, or before one
unfoldable pub why_order : List (List ℕ) → LabState → Order
why_order [] l = option_map_or orders.Origin l.trail orders.Explain
why_order (word ∷ more) l = or_refused (followed (listing l) (board l) word)
    (λ w. or_refused (count_of (last_step + 1) last_step more)
    (λ n. orders.Origin (record { watched = w; steps = n - 1 })) (refused Why word why.NoSteps))
    (refused Why word why.NoAddress)

-- what a command asks for, by its word and the text of its operands
unfoldable pub command_order : Command → (word text : List ℕ) → LabState → Order
command_order Step word text l =
    or_refused (count_of 1 most_steps (words text)) steps_order (refused Step text why.NoSteps)
command_order (Moves Go) word text l = or_refused (count_of usual_steps most_steps (words text))
    (λ n. orders.Run (planned l.resumes n)) (refused (Moves Go) text why.NoSteps)
command_order Over word text l = next_order l
command_order NextC word text l = nextc_order l
command_order (Moves Finish) word text l = orders.Run (planned (goal.Out 1 None) usual_steps)
command_order (Moves Until) word text l = let led = leading (listing l) (board l) (words text) in or_refused led.0
    (λ c. or_refused (count_of usual_steps most_steps led.1) (λ n. orders.Run (planned (goal.Until c) n))
    (refused (Moves Until) text why.NoSteps)) (refused (Moves Until) text why.NoCondition)
command_order (Moves Trace) word text l = or_refused (count_of 10 1000 (words text))
    (λ n. orders.Run (planned goal.Trace n)) (refused (Moves Trace) text why.NoSteps)
command_order (Moves Back) word text l = back_order text (words text) l
command_order command.List word text l = list_order (words text) l
command_order Break word text l = break_order text (words text) l
command_order Clear word text l = or_refused (only_of (words text))
    (λ word. place_order Clear (λ a. orders.Clear a) word l) (refused Clear [] why.NotOne)
command_order Watch word text l =
    watched_order Watch (orders.Answered (answers.Watches (watches_of l))) (λ w. watch_one w l) (words text) l
command_order Unwatch word text l =
    watched_order Unwatch (orders.Unwatch None) (λ w. orders.Unwatch (Some w)) (words text) l
command_order Receive word text l = give_order (unwrap_or (bytes_inputs text) []) (refused Receive text why.NoBytes)
command_order Line word text l = give_order (unwrap_or (driven (words text)) []) (refused Line text why.NoLevel)
command_order Save word text l = save_order text (words text)
command_order Monitor word text l = orders.Monitor text
command_order Why word text l = why_order (words text) l
command_order Help word text l = help_order text (words text)
command_order Quit word text l = orders.Quit
command_order Again word text l = again_order l.again l
command_order Unknown word text l = orders.Answered (answers.NoCommand word)
command_order TooLong word text l = orders.Answered answers.TooLong
command_order c word text l = orders.Answered (look_answer c text l)

-- what a line asks for
unfoldable pub order_of : List ℕ → LabState → Order
order_of line l = command_order (line_command line) (unwrap_or (slice_get (words line) 0) []) (operand_text line) l

-- ---- a line

-- what it asks a lab for that is ready for it
abbrev pub ordered : List ℕ → LabState → Order
ordered line l = order_of line (ready (line_command line) l)
