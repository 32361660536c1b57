-- Not to audit: private contracts alone cite this.
-- The words following the first of a command, as the code reads them.
use Rattle.std.specs.Prelude.{ℕ, ℤ, List, [], ◌∷◌, Option, Some, None, option_and_then}
use Rattle.rv_commands.specs.Addresses.{address_of}
use Rattle.rv_commands.specs.Commands.{number_between}
use Rattle.rv_commands.specs.declared.command.Command.{Command}

-- the only word
abbrev pub only : List (List ℕ) → Option (List ℕ)
only (word ∷ []) = Some word
only _ = None

-- a command, if no word follows its first
abbrev pub alone : Command → List (List ℕ) → Option Command
alone command [] = Some command
alone command _ = None

-- what the only word says
unfoldable pub number_alone : ℕ → ℕ → List (List ℕ) → Option ℕ
number_alone low high more = option_and_then (number_between low high) (only more)

unfoldable pub address_alone : (List ℕ → Option ℤ) → List (List ℕ) → Option ℕ
address_alone symbols more = option_and_then (address_of symbols) (only more)
