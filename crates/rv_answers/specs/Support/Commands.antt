-- Not to audit: private contracts alone cite this.
-- The table of the program, as the definition has it.
use Rattle.std.specs.Prelude.{ℕ, List, find, map, Option}
use Rattle.std.specs.Borrow.{Bor}
use Rattle.std.specs.List.{list_any}
use Rattle.std.specs.Option.{option_map}
use Rattle.std.specs.Str.{bytes_eq}
use Rattle.rv_base.specs.Words.{words}
use Rattle.rv_answers.specs.declared.command.Command.{Command}
use Rattle.rv_answers.specs.declared.command.CommandRow.{CommandRow}

-- the commands by their words
abbrev pub named : List (Bor (List ℕ) × CommandRow) → List (List ℕ × Command)
named rows = map (λ r. (r.0.now, r.1.command)) rows

-- the command of a word in a table
abbrev pub named_in : List ℕ → List (List ℕ × Command) → Option Command
named_in word table = option_map (λ row. row.1) (find (λ row. list_any (bytes_eq word) (words row.0)) table)
