-- The fields of `Words`, by the matches of the command.
-- To audit: public contracts cite this.
use Rattle.std.specs.Prelude.{◌≡◌, ◌≤◌, ℕ, List, Some, IsSomeAnd, codes, option_map}
use Rattle.std.specs.Option.{option_map_or}
use Rattle.std.specs.Str.Parse.{digits_value, without_leading_plus}
use Rattle.clap.specs.Words.{Row, Text, first_of, one_of}
use Rattle.rv_options.specs.Board.{OptionName, name_of, range_of}
use Rattle.rv_options.specs.Board as name
use Rattle.rv_options.specs.declared.Words.{Words}

-- the number that an option's value spells in decimal
abbrev pub number_of : Text → List Row → ℕ
number_of id rows = option_map_or (λ t. digits_value 10 (without_leading_plus t)) (one_of id rows) 0

-- a number is that of an option, and lies in its range
abbrev pub IsNumberOf : OptionName → List Row → ℕ → Type 0
IsNumberOf o rows n =
    (n ≡ number_of (name_of o) rows) × IsSomeAnd (range_of o) (λ r. (r.least ≤ n) × (n ≤ r.most))

-- fields that hold what the words say: a file that no word names is absent
pub record IsReadFrom (rows : List Row) (w : Words) : Type 0 where
  pub source : first_of (codes "source") rows ≡ Some w.source.now
  pub input : first_of (codes "input") rows ≡ option_map (λ t. t.now) w.input
  pub commands : first_of (codes "commands") rows ≡ option_map (λ t. t.now) w.commands
  pub steps : IsNumberOf name.steps rows w.options.steps
  pub pages : IsNumberOf name.pages rows w.options.pages
  pub slots : IsNumberOf name.slots rows w.options.slots
