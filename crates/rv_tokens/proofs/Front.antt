-- The longest token at the front of a line, by the byte that the line begins with.
use Rattle.std.proofs.lemmas.Grind.{common_steps}
use Rattle.std.proofs.Common.{rules, ◌≡◌, ℕ, zero, suc, ◌+◌, ◌-◌, ◌<◌, ◌≤◌, Bool, true, false, cond, List, [], ◌∷◌, length, take, drop, get_or, refl, ap, ◌∙◌, arith, length-take, length-drop, get_or-take, get_or-drop}
use Rattle.std.specs.Prelude.{Option, None, Some, option_and_then, ◌&&◌, codes}
use Rattle.std.specs.List.{list_all}
use Rattle.std.specs.Str.{bytes_eq}
use Rattle.std.specs.Bool.{◌==◌}
use Rattle.std.specs.Option.{option_map}
use Rattle.std.proofs.lemmas.Bool.{and_from, and_left, and_right, both_ways, true_from_ne_false, cases_order}
use Rattle.std.proofs.lemmas.Bool.Decides.{nat_tests}
use Rattle.std.proofs.lemmas.List.Folds.{list_all_at}
use Rattle.std.proofs.Math.Bool.{and-false}
use Rattle.rv_base.specs.Tables.{lookup}
use Rattle.rv_tokens.specs.declared.token.Token.{Token}
use Rattle.rv_tokens.specs.declared.token.Token.TheVariants.{Character, High, Low}
use Rattle.rv_tokens.specs.Literals.{longest, spelled, between}
use Rattle.rv_tokens.specs.Support.Cuts.{front}
use Rattle.rv_tokens.specs.Tokens.{is_name_byte, word, signs, token_of, token_in}
use Rattle.rv_tokens.proofs.Signs.{token_is, half_is, no_sign}
use Rattle.rv_tokens.proofs.Escapes.{spelled_long}
use Rattle.rv_tokens.proofs.Longest.{longest_above, longest_none, longest_is}

-- ---- the first bytes of a line, as a token

pub none_in : (line : List ℕ) (m : ℕ) → token_of (take m line) ≡ None → token_in line m ≡ None
unfolding token_in
none_in line m h = search rules

pub kept_in : (line : List ℕ) (m : ℕ) → (is_name_byte (get_or line (m - 1) 0) && is_name_byte (get_or line m 0)) ≡ false
    → token_in line m ≡ token_of (take m line)
unfolding token_in
kept_in line m h = rw h refl

-- the token of n bytes, if no other number of bytes is one
pub front_at : (line : List ℕ) (n : ℕ) (o : Option Token) → 0 < n → n ≤ length line → token_in line n ≡ o
    → ((m : ℕ) → n < m → m ≤ length line → token_in line m ≡ None)
    → ((m : ℕ) → 0 < m → m < n → token_in line m ≡ None) → front line ≡ option_map (λ t. (t, n)) o
front_at line n (Some t) some le is above below = search (rules, longest_is, longest_none, cases_order)
front_at line n None some le is above below = grind (arith, nat_tests, common_steps, longest_none, cases_order)

pub at_front : (text : List ℕ) (n : ℕ) → get_or (drop n text) 0 0 ≡ get_or text n 0
at_front text n = let e : n + 0 ≡ n = omega arith in get_or-drop n text 0 0 ∙ ap (λ k. get_or text k 0) e

-- no name byte is a quote or a percent sign
other : (n b : ℕ) → is_name_byte n ≡ false → is_name_byte b ≡ true → (b == n) ≡ false
other n b e h = search rules

-- ---- words

name_byte_at : (xs : List ℕ) (m n : ℕ) → m < n → n ≤ length xs → list_all is_name_byte (take n xs) ≡ true
    → is_name_byte (get_or xs m 0) ≡ true
name_byte_at xs m n lt le h = search (rules, nat_tests, true_from_ne_false, both_ways, list_all_at, length-take, get_or-take)

token_of_word : (xs : List ℕ) → list_all is_name_byte xs ≡ true → token_of xs ≡ word xs
unfolding token_of
token_of_word xs h = rw h refl

token_of_many : (xs : List ℕ) → 1 < length xs → is_name_byte (get_or xs 0 0) ≡ true
    → list_all is_name_byte xs ≡ false → token_of xs ≡ None
token_of_many xs long first h = grind (arith, nat_tests, common_steps, token_is, other, no_sign)

word_above : (line : List ℕ) (m n : ℕ) → n < m → 1 < m → m ≤ length line
    → is_name_byte (get_or line 0 0) ≡ true → is_name_byte (get_or line n 0) ≡ false → token_in line m ≡ None
word_above line m n lt two le first stop = search (rules, length-take, get_or-take, none_in, token_of_many, list_all_at)

word_shorter : (line : List ℕ) (m n : ℕ) → 0 < m → m < n → n ≤ length line
    → list_all is_name_byte (take n line) ≡ true → token_in line m ≡ None
unfolding token_in
word_shorter line m n some lt within all = rw (and_from _ _ (name_byte_at line (m - 1) n (omega arith) within all)
    (name_byte_at line m n lt within all)) refl

-- the word of n bytes at the front of a line
pub front_word : (line : List ℕ) (n : ℕ) → n ≤ length line → is_name_byte (get_or line 0 0) ≡ true
    → list_all is_name_byte (take n line) ≡ true → is_name_byte (get_or line n 0) ≡ false
    → (word (take n line) ≡ word (take n line)) × (front line ≡ option_map (λ t. (t, n)) (word (take n line)))
front_word line zero within first all stop = absurd (both_ways _ stop first)
front_word line (suc n) within first all stop = (
  refl,
  front_at line (suc n) _ (omega arith) within
      (kept_in line (suc n) (and_right _ _ stop) ∙ token_of_word (take (suc n) line) all)
      (λ m p q. word_above line m (suc n) p (omega arith) q first stop)
      (λ m p q. word_shorter line m (suc n) p q within all),
)

-- ---- signs

token_of_other : (xs : List ℕ) → 1 < length xs → is_name_byte (get_or xs 0 0) ≡ false
    → (get_or xs 0 0 == 34) ≡ false → (get_or xs 0 0 == 39) ≡ false → (get_or xs 0 0 == 37) ≡ false → token_of xs ≡ None
token_of_other (a ∷ b ∷ bs) long h s c p = search (rules, token_is, no_sign)
token_of_other xs long h s c p = absurd (omega arith)

sign_above : (line : List ℕ) (m : ℕ) → 1 < m → m ≤ length line → is_name_byte (get_or line 0 0) ≡ false
    → (get_or line 0 0 == 34) ≡ false → (get_or line 0 0 == 39) ≡ false → (get_or line 0 0 == 37) ≡ false
    → token_in line m ≡ None
sign_above line m two le h s c p = search (rules, length-take, get_or-take, none_in, token_of_other)

-- the sign at the front of a line
pub front_sign : (line : List ℕ) → 0 < length line → is_name_byte (get_or line 0 0) ≡ false
    → (get_or line 0 0 == 34) ≡ false → (get_or line 0 0 == 39) ≡ false → (get_or line 0 0 == 37) ≡ false
    → front line ≡ option_map (λ t. (t, 1)) (lookup (get_or line 0 0 ∷ []) signs)
front_sign [] some h s c p = absurd (omega arith)
front_sign (b ∷ bs) some h s c p = front_at (b ∷ bs) 1 _ (omega arith) (omega arith)
    (kept_in (b ∷ bs) 1 (and_left _ _ h) ∙ (token_is b [] ∙ rw (s, c, h) refl))
    (λ m q r. sign_above (b ∷ bs) m q r h s c p) (λ m q r. absurd (omega arith))

-- ---- halves

-- a half has three bytes
half_other : (xs : List ℕ) → get_or xs 0 0 ≡ 37 → (length xs ≡ 3 → ⊥) → lookup xs signs ≡ None
half_other xs e h = search rules

token_of_half : (xs : List ℕ) → get_or xs 0 0 ≡ 37 → token_of xs ≡ lookup xs signs
token_of_half xs e = search (rules, token_is)

half_of : (line : List ℕ) (m : ℕ) → 0 < m → get_or line 0 0 ≡ 37 → token_of (take m line) ≡ lookup (take m line) signs
half_of line m some e = token_of_half (take m line) (get_or-take m line 0 0 some ∙ e)

half_not : (line : List ℕ) (m : ℕ) → 0 < m → m ≤ length line → (m ≡ 3 → ⊥) → get_or line 0 0 ≡ 37
    → token_in line m ≡ None
half_not line m some le other e = search (rules, length-take, get_or-take, none_in, half_of, half_other)

-- a line that is too short for a half
pub front_short : (line : List ℕ) → length line < 3 → get_or line 0 0 ≡ 37 → front line ≡ None
front_short line short e = search (rules, longest_none, half_not)

-- a half ends with a name byte
half_last : (line : List ℕ) → get_or line 0 0 ≡ 37 → is_name_byte (get_or line 2 0) ≡ false
    → lookup (take 3 line) signs ≡ None
half_last line e f = search rules

either_ends : (c d : Bool) (o : Option Token) → (c ≡ false → o ≡ None) → cond (c && d) None o ≡ cond d None o
either_ends c d o h = search rules

half_in : (line : List ℕ) → get_or line 0 0 ≡ 37
    → token_in line 3 ≡ cond (is_name_byte (get_or line 3 0)) None (lookup (take 3 line) signs)
unfolding token_in
half_in line e = rw (half_of line 3 (omega arith) e) (either_ends _ _ _ (half_last line e))

-- the half at the front of a line
pub front_half : (line : List ℕ) → 2 < length line → get_or line 0 0 ≡ 37
    → front line ≡ option_map (λ t. (t, 3)) (cond (is_name_byte (get_or line 3 0)) None
    (cond (bytes_eq (take 3 line) (codes "%hi")) (Some High)
    (cond (bytes_eq (take 3 line) (codes "%lo")) (Some Low) None)))
front_half line long e = front_at line 3 _ (omega arith) (omega arith)
    (rw (← half_is (take 3 line) (get_or-take 3 line 0 0 (omega arith) ∙ e)) (half_in line e))
    (λ m p q. half_not line m (omega arith) q (λ same. omega arith) e)
    (λ m p q. half_not line m p (omega arith) (λ same. omega arith) e)

-- ---- characters and strings

-- what begins with a quote ends with it, so that any byte may follow
pub quoted_in : (quote last : ℕ) (line : List ℕ) (m : ℕ) → is_name_byte quote ≡ false
    → get_or line (m - 1) 0 ≡ last → ((last == quote) ≡ false → token_of (take m line) ≡ None)
    → token_in line m ≡ token_of (take m line)
quoted_in quote last line m other ends lost = search (rules, kept_in, and_left, other, none_in)

pub between_open : (left right : ℕ) (xs : List ℕ) → (get_or xs (length xs - 1) 0 == right) ≡ false
    → between left right xs ≡ None
between_open left right xs h = grind (arith, nat_tests, common_steps, and-false)

abbrev pub character : List ℕ → Option ℕ
character text = option_and_then (spelled 39) (between 39 39 text)

token_of_character : (xs : List ℕ) → get_or xs 0 0 ≡ 39 → token_of xs ≡ option_map (λ n. Character n) (character xs)
token_of_character xs e = grind (arith, nat_tests, common_steps, token_is)

character_of : (line : List ℕ) (m : ℕ) → 0 < m → get_or line 0 0 ≡ 39
    → token_of (take m line) ≡ option_map (λ n. Character n) (character (take m line))
character_of line m some e = token_of_character (take m line) (get_or-take m line 0 0 some ∙ e)

-- the last of the first m bytes
pub last_of : (line : List ℕ) (m : ℕ) → 0 < m → m ≤ length line
    → get_or (take m line) (length (take m line) - 1) 0 ≡ get_or line (m - 1) 0
last_of line m some le = grind (arith, nat_tests, common_steps, length-take, get_or-take)

pub character_in : (line : List ℕ) (m : ℕ) → 0 < m → m ≤ length line → get_or line 0 0 ≡ 39
    → token_in line m ≡ option_map (λ n. Character n) (character (take m line))
character_in line m some le e = quoted_in 39 (get_or line (m - 1) 0) line m refl refl (λ f. character_of line m some e
    ∙ ap (λ o. option_map (λ n. Character n) (option_and_then (spelled 39) o))
    (between_open 39 39 (take m line) (ap (λ b. b == 39) (last_of line m some le) ∙ f))) ∙ character_of line m some e

-- a character has at most six bytes
character_long : (xs : List ℕ) → 6 < length xs → character xs ≡ None
character_long xs long = search (rules, length-drop, length-take, spelled_long)

pub character_within : (line : List ℕ) (n : ℕ) → n ≤ length line → ((m : ℕ) → n < m → m ≤ length line → 6 < m)
    → get_or line 0 0 ≡ 39 → longest (token_in line) n ≡ front line
character_within line n le long e = search (rules, nat_tests, longest_above, character_in, character_long, length-take)

pub ruleset half_steps = (front_short, front_half, at_front)
