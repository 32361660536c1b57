-- To audit: public contracts cite this.
-- The command of each command line, or None if it isn't a command.
-- The language is this project's own: docs/MONITOR.md.
use Rattle.std.specs.Prelude.{ℕ, ℤ, List, [], ◌∷◌, length, if◌then◌else◌, nat_le, nat_lt, Option, Some, None, codes, option_and_then, unwrap_or}
use Rattle.std.specs.Option.{option_map}
use Rattle.std.specs.Str.{bytes_eq}
use Rattle.rv_base.specs.Tables.{lookup}
use Rattle.rv_isa.specs.Names.{csr_names}
use Rattle.rv_base.specs.Limits.{line_limit}
use Rattle.rv_base.specs.Numbers.{number_in}
use Rattle.rv_base.specs.Words.{words, begins_comment}
use Rattle.rv_commands.specs.Addresses.{address_of}
use Rattle.rv_commands.specs.declared.command.Command.{Command}
use Rattle.rv_commands.specs.declared.command.Command.TheVariants.{Step, Go, SetBreak, ClearBreak, Registers, ControlRegister, Memory, Instruction, Traps, Edges, Quit, Nothing}

-- ---- operands

-- a decimal number from m to n
unfoldable pub number_between : ℕ → ℕ → List ℕ → Option ℕ
number_between m n word = option_and_then (λ k. if nat_le m k then Some k else None) (number_in 10 n word)

-- ---- command lines

-- the commands of one word
abbrev pub without_operand : List (List ℕ × Command)
without_operand =
    (codes "s", Step 1) ∷ (codes "c", Go None)
    ∷ (codes "r", Registers) ∷ (codes "t", Traps) ∷ (codes "q", Quit) ∷ []

-- the commands of two words, each with what it is by the second, if that can be read
abbrev pub with_operand : (List ℕ → Option ℤ) → List ℕ → List (List ℕ × Option Command)
with_operand symbols word =
    (codes "s", option_map (λ n. Step n) (number_between 0 1000000000 word))
    ∷ (codes "c", option_map (λ n. Go (Some n)) (number_between 0 1000000000 word))
    ∷ (codes "b", option_map (λ addr. SetBreak addr) (address_of symbols word))
    ∷ (codes "d", option_map (λ addr. ClearBreak addr) (address_of symbols word))
    ∷ (codes "p", option_map (λ csr. ControlRegister word csr) (lookup word csr_names))
    ∷ (codes "i", option_map (λ addr. Instruction addr) (address_of symbols word))
    ∷ (codes "e", option_map (λ source. Edges source) (number_between 24 31 word))
    ∷ []

-- a command by its first word and those following it: of three words there is `m ADDR N`
abbrev pub command_by : (List ℕ → Option ℤ) → List ℕ → List (List ℕ) → Option Command
command_by symbols word [] = lookup word without_operand
command_by symbols word (operand ∷ []) = unwrap_or (lookup word (with_operand symbols operand)) None
command_by symbols word (address ∷ n ∷ []) =
    let memory : ℕ → Option Command = λ a. option_map (λ k. Memory a k) (number_between 1 256 n) in
    if bytes_eq word (codes "m") then option_and_then memory (address_of symbols address) else None
command_by symbols word _ = None

-- a line by its words; a blank line or a comment does nothing
abbrev pub said_by : (List ℕ → Option ℤ) → List (List ℕ) → Option Command
said_by symbols [] = Some Nothing
said_by symbols (word ∷ more) =
    if begins_comment word then Some Nothing else command_by symbols word more

-- a line; a line of more than 1,024 bytes is refused whatever it says
unfoldable pub command_of : List ℕ → (List ℕ → Option ℤ) → Option Command
command_of line symbols = if nat_lt line_limit (length line) then None else said_by symbols (words line)
