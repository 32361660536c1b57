-- The matches of a parse of the command, whatever the words are.
-- Not to audit: private contracts alone cite this.
use Rattle.std.specs.Prelude.{◌≡◌, ℕ, pos, Some, codes, is_some, true, List}
use Rattle.clap.specs.Lexer.{without_minus}
use Rattle.clap.specs.Values.{IsSignedIn}
use Rattle.clap.specs.Words.{Text, first_value, found_of, matches_of, one_text, rows_of}
use Rattle.clap.specs.declared.parser.matches.ArgMatches.{ArgMatches}
use Rattle.rv_options.specs.Board.{board_app}

-- an option whose value reads as a number from `low` to `high`
pub record HasNumber (m : ArgMatches) (id : Text) (low high : ℕ) : Type 0 where
  pub text : Text
  pub one : one_text (found_of m) id ≡ Some (without_minus text)
  pub accepted : IsSignedIn (pos low) (pos high) text

-- matches whose rows are those of clap's meaning of the command, with a value for each argument that has a
-- default
pub record IsBoardParse (words : List Text) (m : ArgMatches) : Type 0 where
  pub rows : rows_of (found_of m) ≡ matches_of board_app words
  pub source : is_some (first_value (found_of m) (codes "source")) ≡ true
  pub steps : HasNumber m (codes "steps") 0 1000000000
  pub pages : HasNumber m (codes "pages") 1 4096
  pub slots : HasNumber m (codes "slots") 64 4096
