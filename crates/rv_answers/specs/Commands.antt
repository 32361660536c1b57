-- To audit: public contracts cite this.
-- The commands of the lab by their words (this project's own: docs/LAB.md).
use Rattle.std.specs.Prelude.{ℕ, List, [], ◌∷◌, codes, find, Option}
use Rattle.std.specs.List.{list_any}
use Rattle.std.specs.Option.{option_map}
use Rattle.std.specs.Str.{bytes_eq}
use Rattle.rv_base.specs.Words.{words}
use Rattle.rv_answers.specs.declared.command.Command.{Command}
use Rattle.rv_answers.specs.declared.command.Command.TheVariants.{Step, Over, NextC, Moves, Where, Backtrace, Break, Clear, Registers, ControlRegister, Memory, Instruction, Traps, Edges, Why, Check, Profile, Display, Undisplay, Watch, Unwatch, Devices, Receive, Line, Save, Reload, Monitor, Help, Quit}
use Rattle.rv_answers.specs.declared.command.Command.TheVariants as command
use Rattle.rv_answers.specs.declared.command.Move.TheVariants.{Go, Finish, Until, Trace, Back}

-- the commands, each with its words: the first is that of the help, the others are as other tools have them
unfoldable pub commands : List (List ℕ × Command)
commands =
    (codes "s step si", Step) ∷ (codes "c continue run go", Moves Go) ∷ (codes "next n ni", Over) ∷
    (codes "nextc", NextC) ∷ (codes "finish fin", Moves Finish) ∷ (codes "until", Moves Until) ∷ (codes "trace", Moves Trace) ∷
    (codes "u undo back", Moves Back) ∷ (codes "w where", Where) ∷ (codes "bt backtrace", Backtrace) ∷
    (codes "l list", command.List) ∷
    (codes "b break", Break) ∷ (codes "d delete clear", Clear) ∷ (codes "r reg regs registers", Registers) ∷
    (codes "p", ControlRegister) ∷ (codes "m mem x", Memory) ∷ (codes "i", Instruction) ∷
    (codes "t traps", Traps) ∷ (codes "e", Edges) ∷ (codes "why", Why) ∷ (codes "check", Check) ∷
    (codes "profile", Profile) ∷ (codes "display", Display) ∷ (codes "undisplay", Undisplay) ∷
    (codes "watch", Watch) ∷ (codes "unwatch", Unwatch) ∷
    (codes "dev", Devices) ∷ (codes "rx", Receive) ∷ (codes "line", Line) ∷ (codes "save", Save) ∷ (codes "reload", Reload) ∷
    (codes "monitor", Monitor) ∷ (codes "help h", Help) ∷ (codes "q exit quit", Quit) ∷ []

-- the command that a word names
abbrev pub command_named : List ℕ → Option Command
command_named word = option_map (λ r. r.1) (find (λ r. list_any (bytes_eq word) (words r.0)) commands)

-- the word of a command in the help: the first of its words, and none of what no word asks for
unfoldable pub help_word : Command → List ℕ
help_word Step = codes "s"
help_word (Moves Go) = codes "c"
help_word Over = codes "next"
help_word NextC = codes "nextc"
help_word (Moves Finish) = codes "finish"
help_word (Moves Until) = codes "until"
help_word (Moves Trace) = codes "trace"
help_word (Moves Back) = codes "u"
help_word Where = codes "w"
help_word Backtrace = codes "bt"
help_word command.List = codes "l"
help_word Break = codes "b"
help_word Clear = codes "d"
help_word Registers = codes "r"
help_word ControlRegister = codes "p"
help_word Memory = codes "m"
help_word Instruction = codes "i"
help_word Traps = codes "t"
help_word Edges = codes "e"
help_word Why = codes "why"
help_word Check = codes "check"
help_word Profile = codes "profile"
help_word Display = codes "display"
help_word Undisplay = codes "undisplay"
help_word Watch = codes "watch"
help_word Unwatch = codes "unwatch"
help_word Devices = codes "dev"
help_word Receive = codes "rx"
help_word Line = codes "line"
help_word Save = codes "save"
help_word Reload = codes "reload"
help_word Monitor = codes "monitor"
help_word Help = codes "help"
help_word Quit = codes "q"
help_word _ = []
