-- The arguments that are built for `clap`, and what a parse of a command gives.
-- Not to audit: private contracts alone cite this.
use Rattle.std.specs.Prelude.{◌≡◌, ℕ, pos, [], ◌∷◌, Some, false}
use Rattle.clap.specs.Words.{App, Rule, Text, app_of, rule_of, IsParsedFrom}
use Rattle.clap.specs.declared.builder.arg.Arg.{Arg}
use Rattle.clap.specs.declared.builder.command.Command.{Command}
use Rattle.clap.specs.declared.builder.value_parser.ValueParser.TheVariants.{Signed}
use Rattle.clap.specs.declared.parser.matches.ArgMatches.{ArgMatches}
use Rattle.rv_options.specs.Usage.{file_rule}

-- an argument that isn't handed on to subcommands, and has the rule
abbrev pub HasRule : Arg → Rule → Type 0
HasRule arg rule = (rule_of arg ≡ rule) × (arg.global ≡ false)

-- an option whose values are numbers from `low` to `high`, with a default
abbrev pub number_rule : Text → Text → ℕ → ℕ → Rule
number_rule name default low high =
    record (file_rule name) { defaults = default ∷ []; parser = Some (Signed (pos low) (pos high)) }

-- matches that a command with this meaning gives
pub record IsParseBy (app : App) (m : ArgMatches) : Type 0 where
  pub command : Command
  pub is : app_of command ≡ app
  pub parsed : IsParsedFrom command m
