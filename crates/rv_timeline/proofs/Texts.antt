-- The text of a list is read as the list.
use Rattle.std.proofs.Common.{rules, ◌≡◌, ◌∙◌, ℕ, suc, ◌+◌, ◌*◌, ◌/◌, ◌%◌, ◌^◌, ◌<◌, ◌≤◌, Bool, true, false, List, [], ◌∷◌, ◌++◌, length, get_or, ap, take, fold, refl, arith, append-nil, append_assoc, length-append}
use Rattle.std.proofs.lemmas.Bool.Decides.{nat_tests}
use Rattle.std.proofs.lemmas.Grind.{common_steps}
use Rattle.std.proofs.lemmas.List.{take_more}
use Rattle.std.proofs.lemmas.Bool.{and_parts, and_from, ltb-true, leb-true, lt-ltb, le-ltb, le-leb, ne_eqb}
use Rattle.std.proofs.lemmas.Fmt.{decimal_by_steps, length-decimal-le}
use Rattle.std.proofs.lemmas.List.Folds.{list_all-append}
use Rattle.std.proofs.lemmas.List.Splits.{slice_split_none, slice_split_at}
use Rattle.std.proofs.lemmas.List.Sums.{AllPass-from_list_all, fold-append}
use Rattle.std.specs.Char.{is_ascii_digit}
use Rattle.std.specs.List.{All, list_all}
use Rattle.std.specs.Prelude.{Some, nat_le, nat_lt, codes, decimal, if◌then◌else◌}
use Rattle.rv_base.specs.Digits.{hex}
use Rattle.std.specs.Str.Lines.{strip_carriage_return}
use Rattle.std.proofs.lemmas.Str.{digit_value-digit_char}
use Rattle.rv_base.specs.Lines.{lines, split}
use Rattle.rv_base.specs.Numbers.{digit_value, hex_digit, hex_byte, number_in}
use Rattle.rv_base.specs.Words.{words, is_blank, begins_comment}
use Rattle.rv_timeline.specs.declared.input.Input.{Input}
use Rattle.rv_timeline.specs.declared.input.Input.TheVariants.{Rx, Line}
use Rattle.rv_timeline.specs.declared.input.TimedInput.{TimedInput}
use Rattle.rv_timeline.specs.Support.Reading.{HasSteps, is_input, line_text}
use Rattle.rv_timeline.specs.Text.{input_text, list_text}
use Rattle.rv_timeline.specs.Timed.{all_of, step_of, inputs_of, timed_line, never_falls, timed}

weaker : {A : Type 0} (p q : A → Bool) → ((a : A) → p a ≡ true → q a ≡ true) → (xs : List A)
    → list_all p xs ≡ true → list_all q xs ≡ true
weaker p q more [] h = refl
weaker p q more (x ∷ xs) h = grind (arith, nat_tests, common_steps, and_from, and_parts, weaker p q more xs)

-- ---- bytes

-- whether each byte is above a space, as those of a word are
abbrev graphic : List ℕ → Bool
graphic word = list_all (λ b. nat_lt 32 b) word

-- whether no byte is below a space, as in a line of words and spaces
abbrev printed : List ℕ → Bool
printed line = list_all (λ b. nat_le 32 b) line

graphic_printed : (w : List ℕ) → graphic w ≡ true → printed w ≡ true
graphic_printed w h = search (rules, weaker, ltb-true, le-leb)

printed_append : (a b : List ℕ) → printed a ≡ true → printed b ≡ true → printed (a ++ b) ≡ true
printed_append a b h k = search (rules, arith, list_all-append, and_from)

no_blanks : (w : List ℕ) → graphic w ≡ true → All (λ b. is_blank b ≡ false) w
no_blanks w h k d within = search (rules, arith, AllPass-from_list_all)

ruleset word_steps = (slice_split_at, slice_split_none, no_blanks, lt-ltb, le-ltb, length-append)

-- ---- lines

split_line : (line rest : List ℕ) → printed line ≡ true → split (line ++ 10 ∷ rest) ≡ line ∷ split rest
unfolding split
split_line [] rest h = refl
split_line (b ∷ bs) rest h = grind (arith, nat_tests, common_steps, leb-true, and_parts, ne_eqb, split_line bs rest)

printed_at : (line : List ℕ) (i : ℕ) → printed line ≡ true → i < length line → 32 ≤ get_or line i 0
printed_at (b ∷ bs) (suc i) h l = printed_at bs i (and_parts _ _ h).1 (omega arith)
printed_at line i h l = search (rules, arith, leb-true, and_parts)

no_return : (line : List ℕ) → 0 < length line → printed line ≡ true → strip_carriage_return line ≡ line
no_return line some h = search (rules, printed_at, ne_eqb)

-- ---- decimal digits

-- digits of a value
record IsWritten (n : ℕ) (ds : List ℕ) : Type 0 where
  some : 0 < length ds
  all : list_all is_ascii_digit ds ≡ true
  digits : list_all (λ b. nat_lt (digit_value b) 10) ds ≡ true
  means : fold (λ v b. 10 * v + digit_value b) 0 ds ≡ n

digit_means : (n : ℕ) → n < 10 → digit_value (48 + n) ≡ n
unfolding hex_digit
digit_means n h = search (rules, arith, lt-ltb, digit_value-digit_char)

one_digit : (n : ℕ) → n < 10 → IsWritten n ((48 + n) ∷ [])
one_digit n h = search (rules, arith, le-leb, digit_means, lt-ltb)

more_digits : (n : ℕ) (ds : List ℕ) → 10 ≤ n → IsWritten (n / 10) ds
    → IsWritten n (ds ++ ((48 + n % 10) ∷ []))
more_digits n ds h w = search (rules, one_digit, length-append, list_all-append, and_from, fold-append, digit_means)

written : (n : ℕ) → n < 2 ^ 64 → IsWritten n (decimal n)
written n h = decimal_by_steps IsWritten one_digit more_digits n h

graphic_digits : (ds : List ℕ) → list_all is_ascii_digit ds ≡ true → graphic ds ≡ true
graphic_digits ds h = search (rules, weaker, leb-true, and_parts, lt-ltb)

no_comment : (ds : List ℕ) → 0 < length ds → list_all is_ascii_digit ds ≡ true → begins_comment ds ≡ false
no_comment [] some h = absurd (omega arith)
no_comment (d ∷ ds) some h = search rules

-- ---- hexadecimal digits

graphic_hex : (b : ℕ) → graphic (hex 2 b) ≡ true
unfolding hex
graphic_hex b = search rules

length_hex : (b : ℕ) → length (hex 2 b) ≡ 2
unfolding hex
length_hex b = refl

byte_read : (b : ℕ) → b < 256 → hex_byte (hex 2 b) ≡ Some b
unfolding hex hex_byte number_in hex_digit
byte_read b h = search (rules, arith, digit_value-digit_char, lt-ltb, le-ltb, le-leb)

-- ---- the line of an input

-- without its line end
abbrev body : TimedInput → List ℕ
body x = decimal x.step ++ 32 ∷ input_text x.input

-- what the words of an input mean, how long they are, and that they have no line end
record IsSpelled (input : Input) : Type 0 where
  means : inputs_of (words (input_text input)) ≡ Some (input ∷ [])
  short : length (input_text input) ≤ 30
  plain : printed (input_text input) ≡ true

byte_words : (b : ℕ) → words (input_text (Rx b)) ≡ codes "rx" ∷ hex 2 b ∷ []
unfolding words
byte_words b = search (rules, arith, slice_split_at, slice_split_none, no_blanks, lt-ltb, length_hex, graphic_hex)

abbrev level_text : Bool → List ℕ
level_text high = if high then codes "1" else codes "0"

level_length : (high : Bool) → length (level_text high) ≡ 1
level_length high = search (rules, arith)

module _ (n : ℕ) (high : Bool) (some : 0 < n) (few : n < 32) where
  number : IsWritten n (decimal n)
  number = search (rules, arith, written)

  line_spelled : input_text (Line n high) ≡ codes "line" ++ 32 ∷ (decimal n ++ 32 ∷ level_text high)
  line_spelled = search (rules, append_assoc)

  line_words : words (input_text (Line n high)) ≡ codes "line" ∷ decimal n ∷ level_text high ∷ []
  unfolding words
  line_words =
      search (rules, arith, line_spelled, slice_split_at, number, graphic_digits, slice_split_none, no_blanks, lt-ltb)

  driven_read : (b : Bool) → inputs_of (codes "line" ∷ decimal n ∷ level_text b ∷ []) ≡ Some (Line n b ∷ [])
  unfolding inputs_of number_in
  driven_read b = search (rules, arith, le-leb, number)

  spelled_line : IsSpelled (Line n high)
  spelled_line = record {
    means = ap inputs_of line_words ∙ driven_read high;
    short = omega (
      arith,
      ap length line_spelled,
      length-append (decimal n) (32 ∷ level_text high),
      length-decimal-le 2 n (omega arith) (omega arith) (omega arith),
      level_length high,
    );
    plain = ap printed line_spelled ∙ printed_append (decimal n) (32 ∷ level_text high)
        (graphic_printed (decimal n) (graphic_digits (decimal n) number.all)) (search (rules, arith));
  }

spelled : (input : Input) → is_input input ≡ true → IsSpelled input
unfolding inputs_of all_of
spelled (Rx b) h = search (rules, arith, byte_words, byte_read, length_hex, graphic_printed, graphic_hex, ltb-true)
spelled (Line n high) h =
    spelled_line n high (ltb-true 0 n (and_parts _ _ h).0) (ltb-true n 32 (and_parts _ _ h).1)

module _ (x : TimedInput) (ranges : is_input x.input ≡ true) (small : x.step ≤ 9999999999) where
  step_written : IsWritten x.step (decimal x.step)
  step_written = search (rules, arith, written)

  input_spelled : IsSpelled x.input
  input_spelled = spelled x.input ranges

  ten_digits : length (decimal x.step) ≤ 10
  ten_digits = search (rules, arith, length-decimal-le)

  step_read : step_of (decimal x.step) ≡ Some x.step
  unfolding step_of number_in
  step_read = search (rules, arith, le-leb, ten_digits, step_written)

  body_printed : printed (body x) ≡ true
  body_printed = search (rules, arith, printed_append, graphic_printed, graphic_digits, step_written, input_spelled)

  body_said : timed_line (body x) ≡ Some (x ∷ [])
  unfolding timed_line words
  body_said =
      search (rules, arith, word_steps, step_written, graphic_digits, no_comment, ten_digits, step_read, input_spelled)

  first_line : (rest : List ℕ) → lines (line_text x ++ rest) ≡ body x ∷ lines rest
  first_line rest = search (rules, arith, append_assoc, split_line, no_return, length-append, body_printed)

-- ---- the text of a list

all_said : (xs : List TimedInput) → list_all (λ x. is_input x.input) xs ≡ true → HasSteps xs
    → all_of timed_line (lines (list_text xs)) ≡ Some xs
unfolding list_text all_of split
all_said [] ranges small = refl
all_said (x ∷ xs) ranges small = grind (arith, nat_tests, common_steps, and_parts, leb-true, first_line, body_said, all_said xs)

pub reads : (xs : List TimedInput) (text : List ℕ) → text ≡ list_text xs
    → list_all (λ x. is_input x.input) xs ≡ true → never_falls xs ≡ true → HasSteps xs → timed (lines text) ≡ Some xs
unfolding timed
reads xs text is ranges rising small = rw (is, all_said xs ranges small, rising) refl

-- ---- line by line

pub line_more : (xs : List TimedInput) (i : ℕ) (x : TimedInput) (before new : List ℕ) → i < length xs
    → x ≡ get_or xs i x → before ≡ list_text (take i xs) → new ≡ before ++ line_text x
    → new ≡ list_text (take (i + 1) xs)
unfolding list_text
line_more xs i x before new within at was is = grind (arith, nat_tests, common_steps, append-nil, append_assoc, take_more)
