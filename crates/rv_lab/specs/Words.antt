-- To audit: public contracts cite this.
-- The command of a line (this project's own: docs/LAB.md).
use Rattle.std.specs.Prelude.{ℕ, ◌-◌, ◌==◌, List, [], ◌∷◌, codes, length, nat_lt, if◌then◌else◌, unwrap_or, Option, Some, None, option_and_then}
use Rattle.std.specs.Str.{bytes_eq}
use Rattle.rv_base.specs.Limits.{line_limit}
use Rattle.rv_base.specs.Numbers.{number_in}
use Rattle.rv_base.specs.Words.{begins_comment, words}
use Rattle.rv_answers.specs.Commands.{command_named}
use Rattle.rv_answers.specs.declared.command.Command.{Command}
use Rattle.rv_answers.specs.declared.command.Command.TheVariants.{Step, Over, NextC, Moves, Again, StepOnce, Nothing, Unknown, TooLong}
use Rattle.rv_answers.specs.declared.command.Command.TheVariants as command

-- the command that a line's words ask for: an empty line repeats a command, and a comment does nothing
abbrev pub word_command : List (List ℕ) → Command
word_command [] = Again
word_command (word ∷ more) = if begins_comment word then Nothing else unwrap_or (command_named word) Unknown

-- the command of a line, which has at most 1,024 bytes
abbrev pub line_command : List ℕ → Command
line_command line = if nat_lt line_limit (length line) then TooLong else word_command (words line)

-- what an empty line repeats after a command: a step or list command, a single step after another that moves
-- the board, and else what it repeated before
abbrev pub repeated : Command → Command → Command
repeated Step before = Step
repeated Over before = Over
repeated NextC before = NextC
repeated command.List before = command.List
repeated (Moves m) before = StepOnce
repeated other before = before

-- the number of some words, or the usual one where there are none
abbrev pub count_of : ℕ → ℕ → List (List ℕ) → Option ℕ
count_of usual most [] = Some usual
count_of usual most (word ∷ []) = number_in 10 most word
count_of usual most _ = None

-- how many hits a breakpoint passes before one stops a run, by the words that follow its place or its condition: N - 1
-- of `after N`, and none where there are no words
unfoldable pub passes : List (List ℕ) → Option ℕ
passes [] = Some 0
passes (word ∷ n ∷ []) = if bytes_eq word (codes "after")
    then option_and_then (λ n. if n == 0 then None else Some (n - 1)) (number_in 10 1000000000 n) else None
passes _ = None

-- the steps of a run where no number is given, and the most of a command
abbrev pub usual_steps : ℕ
usual_steps = 1000000

abbrev pub most_steps : ℕ
most_steps = 1000000000
