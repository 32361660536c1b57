-- The command `rvboard [SOURCE] [--input F] [--commands F] [--steps N] [--pages P] [--slots S]`, as the rules
-- that `clap` parses words by.
-- To audit: public contracts cite this.
use Rattle.std.specs.Prelude.{ℕ, pos, [], ◌∷◌, Option, Some, None, codes, fold}
use Rattle.clap.specs.Words.{App, Rule, Text, new_app, with_rule}
use Rattle.clap.specs.declared.builder.value_parser.ValueParser.TheVariants.{Signed}
use Rattle.rv_options.specs.Usage.{file_rule}

-- ---- the options

pub data OptionName : Type 0 where
  input commands steps pages slots : OptionName

-- decimal numbers, with the one that stands for an option that isn't given
pub record Range : Type 0 where
  pub least : ℕ
  pub most : ℕ
  pub default : Text

-- a row an option: its name, and the numbers that it takes, if it doesn't take the path of a file
abbrev pub option_row : OptionName → Text × Option Range
option_row input = (codes "input", None)
option_row commands = (codes "commands", None)
option_row steps = (codes "steps", Some (record { least = 0; most = 1000000000; default = codes "1000000" }))
option_row pages = (codes "pages", Some (record { least = 1; most = 4096; default = codes "256" }))
option_row slots = (codes "slots", Some (record { least = 64; most = 4096; default = codes "1024" }))

abbrev pub name_of : OptionName → Text
name_of o = (option_row o).0

abbrev pub range_of : OptionName → Option Range
range_of o = (option_row o).1

-- ---- their rules

-- the positional argument SOURCE, whose default is `-`
abbrev pub source_rule : Rule
source_rule = record (file_rule (codes "source")) { long = None; defaults = codes "-" ∷ [] }

-- an option that takes the path of a file, or a number
abbrev pub rule_by : Text → Option Range → Rule
rule_by name None = file_rule name
rule_by name (Some r) =
    record (file_rule name) { defaults = r.default ∷ []; parser = Some (Signed (pos r.least) (pos r.most)) }

-- the rule of an option
abbrev pub option_rule : OptionName → Rule
option_rule o = rule_by (name_of o) (range_of o)

-- the command: its name and its arguments in their order
unfoldable pub board_app : App
board_app =
    fold (λ app o. with_rule app (option_rule o))
    (with_rule (new_app (codes "rvboard")) source_rule) (input ∷ commands ∷ steps ∷ pages ∷ slots ∷ [])
