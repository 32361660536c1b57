-- The usage of a program, as the command that `clap` parses its words by.
-- To audit: public contracts cite this.
use Rattle.std.specs.Prelude.{pos, List, [], ◌∷◌, Some, None, codes, fold, is_some, not}
use Rattle.std.specs.Option.{option_map_or}
use Rattle.clap.specs.Words.{App, Rule, Text, new_app, new_rule, with_rule}
use Rattle.clap.specs.declared.builder.action.ArgAction.TheVariants.{Set, SetTrue}
use Rattle.clap.specs.declared.builder.value_parser.ValueParser.TheVariants.{Names, Signed}
use Rattle.rv_options.specs.declared.usage.Argument.{Argument}
use Rattle.rv_options.specs.declared.usage.Argument.TheVariants as argument
use Rattle.rv_options.specs.declared.usage.Usage.{Usage}

-- an option that takes a text, as the path of a file, with no default
abbrev pub file_rule : Text → Rule
file_rule name = record (new_rule name) { long = Some name; action = Some Set; value_names = 1 }

-- a row an argument: what it takes, under which words
abbrev pub argument_rule : Argument → Rule
argument_rule (argument.Source help default) = record (file_rule (codes "source")) {
  long = None;
  defaults = option_map_or (λ d. d.now ∷ []) default [];
  required = not (is_some default);
}
argument_rule (argument.Flag name help) = record (new_rule name.now) { long = Some name.now; action = Some SetTrue }
argument_rule (argument.Text name letter value_name help) = record (file_rule name.now) { short = letter }
argument_rule (argument.Choice name value_name help choices) =
    record (file_rule name.now) { parser = Some (Names choices) }
argument_rule (argument.Number name value_name help default least most) =
    record (file_rule name.now) { defaults = default.now ∷ []; parser = Some (Signed (pos least) (pos most)) }

-- a command with the arguments added, in their order
abbrev pub with_arguments : App → List Argument → App
with_arguments app arguments = fold (λ a x. with_rule a (argument_rule x)) app arguments

-- the command of a usage without its arguments: it takes `--version` if there is one
abbrev pub bare_app : Usage → App
bare_app usage =
    let app = new_app usage.name.now in
    record app { top = record app.top { has_version = is_some usage.version } }

-- the command of a usage
unfoldable pub usage_app : Usage → App
usage_app usage = with_arguments (bare_app usage) usage.arguments.now
