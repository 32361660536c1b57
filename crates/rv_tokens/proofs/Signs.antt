-- Numbers by the tests of their prefix, and the token that a text spells by its first byte.
use Rattle.std.proofs.Common.{rules, ◌≡◌, ℕ, false, cond, List, [], ◌∷◌, drop, get_or, refl, arith}
use Rattle.std.specs.Prelude.{Option, None, Some, option_and_then, codes}
use Rattle.std.specs.Str.{bytes_eq}
use Rattle.std.specs.Bool.{◌==◌}
use Rattle.std.specs.List.{list_all}
use Rattle.std.specs.Option.{option_map, option_or}
use Rattle.std.proofs.lemmas.Bool.Decides.{nat_tests}
use Rattle.std.proofs.Math.Bool.{and-false}
use Rattle.rv_base.specs.Tables.{lookup}
use Rattle.rv_tokens.specs.declared.token.Token.{Token}
use Rattle.rv_tokens.specs.declared.token.Token.TheVariants.{Character, Text, High, Low}
use Rattle.rv_base.specs.Numbers.{number_in}
use Rattle.rv_tokens.specs.Literals.{has_leading_zero, number, short_decimal, between, spelled}
use Rattle.rv_tokens.specs.Tokens.{is_name_byte, local, word, signs, token_of}
use Rattle.rv_tokens.specs.Support.Partial.{has_prefix, string_bytes}

pub swapped : (a b : ℕ) → (a == b) ≡ (b == a)
swapped a b = grind (arith, nat_tests)

-- a number, by the tests of its prefix
pub number_is : (text : List ℕ) → number text ≡ cond (has_prefix 120 88 text) (number_in 16 0xffffffff (drop 2 text))
    (cond (has_prefix 98 66 text) (number_in 2 0xffffffff (drop 2 text))
    (cond (has_leading_zero text) (number_in 8 0xffffffff (drop 1 text)) (number_in 10 0xffffffff text)))
unfolding number
number_is text = search (rules, and-false, swapped)

-- ---- signs

pub half_is : (text : List ℕ) → get_or text 0 0 ≡ 37 → lookup text signs
    ≡ cond (bytes_eq text (codes "%hi")) (Some High) (cond (bytes_eq text (codes "%lo")) (Some Low) None)
half_is text e = search rules

pub no_sign : (b c : ℕ) (bs : List ℕ) → (b == 37) ≡ false → lookup (b ∷ c ∷ bs) signs ≡ None
no_sign b c bs h = search rules

-- ---- tokens

none_after : (o : Option Token) → option_or o None ≡ o
none_after o = search rules

-- the token of a text, by its first byte
abbrev pub token_by : ℕ → List ℕ → Option Token
token_by b bs = cond (b == 34) (option_map (λ s. Text s) (option_and_then string_bytes (between 34 34 (b ∷ bs))))
    (cond (b == 39) (option_map (λ n. Character n) (option_and_then (spelled 39) (between 39 39 (b ∷ bs))))
    (cond (list_all is_name_byte (b ∷ bs)) (word (b ∷ bs)) (lookup (b ∷ bs) signs)))

pub token_is : (b : ℕ) (bs : List ℕ) → token_of (b ∷ bs) ≡ token_by b bs
unfolding token_of
token_is b bs = search (rules, and-false, none_after)

pub no_token : token_of [] ≡ None
unfolding token_of word local short_decimal number number_in
no_token = refl
