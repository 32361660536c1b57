-- The matches of the words, by the command alone.
use Rattle.std.proofs.Common.{rules, arith, ◌≡◌, ◌∙◌, ◌<◌, ◌≤◌, ◌^◌, ap, subst, sym, refl, ℕ, true, List, Option, Some, Result}
use Rattle.std.specs.Prelude.{codes, pos, option_map}
use Rattle.std.specs.Option.{option_map_or}
use Rattle.std.specs.Borrow.{Bor}
use Rattle.std.specs.declared.num.ParseIntError.{ParseIntError}
use Rattle.std.specs.Str.Parse.{ParsesUnsigned, ExplainsUnsignedError, HasUnsignedDigitsIfOk, digits_value, without_leading_plus}
use Rattle.clap.specs.Matches.{ReadsOne}
use Rattle.clap.proofs.CallerReads.{signed_reads}
use Rattle.clap.proofs.WalkLemmas.{first_value-rows, one_text-rows}
use Rattle.rv_options.specs.Read.{number_of}
use Rattle.clap.specs.Lexer.{without_minus}
use Rattle.clap.specs.declared.builder.value_parser.ValueParser.TheVariants.{Signed}
use Rattle.clap.specs.Built.{IsParsedFrom}
use Rattle.clap.specs.Words.{App, Row, Text, app_of, first_of, first_value, found_of, is_simple_and_free, matches_of, one_of, one_text, rows_of}
use Rattle.clap.specs.declared.builder.command.Command.{Command}
use Rattle.clap.specs.declared.parser.matches.ArgMatches.{ArgMatches}
use Rattle.clap.proofs.SimpleLemmas.{plain_fields}
use Rattle.rv_options.specs.Board.{board_app, source_rule}
use Rattle.rv_options.specs.Support.Arguments.{IsParseBy, number_rule}
use Rattle.rv_options.specs.Support.Parse.{HasNumber, IsBoardParse}
use Rattle.rv_options.proofs.Defaults.{HasDefaultAt, IsParseOf, has_value, reads}

parse_of : (c : Command) (m : ArgMatches) → app_of c ≡ board_app → IsParsedFrom c m → IsParseOf board_app.top.rules c m
unfolding board_app
parse_of c m is parsed = search (rules, arith, plain_fields)

number : (c : Command) (m : ArgMatches) (k : ℕ) (name default : Text) (low high : ℕ) → IsParseOf board_app.top.rules c m
    → HasDefaultAt board_app.top.rules k (number_rule name default low high) → HasNumber m name low high
number c m k name default low high p at =
    let got = reads board_app.top.rules c m p k (number_rule name default low high) at
    (Signed (pos low) (pos high)) refl in
    record { text = got.0; one = got.1; accepted = got.2 }

pub board_parse : (app : App) (m : ArgMatches) (words : List Text) → app ≡ board_app → IsParseBy app m →
    rows_of (found_of m) ≡ matches_of app words → IsBoardParse words m
unfolding board_app
board_parse app m words is by matches =
    let c = by.command in
    let p = parse_of c m (by.is ∙ is) by.parsed in
    record {
      rows = matches ∙ ap (λ a. matches_of a words) is;
      source = has_value board_app.top.rules c m p 0 source_rule (search (rules, arith));
      steps = number c m 3 (codes "steps") (codes "1000000") 0 1000000000 p (search (rules, arith));
      pages = number c m 4 (codes "pages") (codes "256") 1 4096 p (search (rules, arith));
      slots = number c m 5 (codes "slots") (codes "1024") 64 4096 p (search (rules, arith));
    }

-- and it says the errors of the command
pub board_free : is_simple_and_free board_app ≡ true
unfolding board_app
board_free = refl

-- ---- the fields, by the getters

-- the result of `get_one` for a number option: a number in the range, which the option's value spells
pub record IsNumberOf (rows : List Row) (id : Text) (low high : ℕ) (r : Option ℕ) : Type 0 where
  pub value : ℕ
  pub is : r ≡ Some value
  pub least : low ≤ value
  pub most : value ≤ high
  pub said : value ≡ number_of id rows

-- how `parse` reads an unsigned number
abbrev Parses : ℕ → List ℕ → Result ℕ ParseIntError → Type 0
Parses bits text r = ParsesUnsigned bits 10 text r × ExplainsUnsignedError 10 text r × HasUnsignedDigitsIfOk text r

pub number_got : (bits low high : ℕ) (words : List Text) (m : ArgMatches) (id : Text) (r : Option ℕ)
    → ((t : List ℕ) → one_text (found_of m) id ≡ Some t → ReadsOne (Parses bits) t r) → high < 2 ^ bits
    → IsBoardParse words m → HasNumber m id low high → IsNumberOf (matches_of board_app words) id low high r
number_got bits low high words m id r gives fits p h =
    let one = gives (without_minus h.text) h.one in
    let got = signed_reads ParseIntError (Parses bits) bits low high h.text r one (λ u x g. g.0) fits h.accepted in
    let read : ReadsOne (Parses bits) (without_minus h.text) (Some got.0) =
    subst (λ (o : Option ℕ). ReadsOne (Parses bits) (without_minus h.text) o) got.1 one in
    let text : one_of id (matches_of board_app words) ≡ Some (without_minus h.text) =
    ap (one_of id) (sym p.rows) ∙ (sym (one_text-rows (found_of m) id) ∙ h.one) in
    record {
      value = got.0;
      is = got.1;
      least = got.2;
      most = got.3;
      said = read.0.1 ∙ sym (ap (λ (o : Option Text).
          option_map_or (λ t. digits_value 10 (without_leading_plus t)) o 0) text);
    }

-- the result of `get_str`: the first value of the argument
pub text_got : (words : List Text) (m : ArgMatches) (id : Text) (r : Option (Bor Text)) → IsBoardParse words m
    → option_map (λ s. s.now) r ≡ first_value (found_of m) id →
    first_of id (matches_of board_app words) ≡ option_map (λ s. s.now) r
text_got words m id r p e = search (rules, arith, first_value-rows)
