-- The words of a text, one after the other.
use Rattle.std.proofs.lemmas.Bool.Decides.{nat_tests}
use Rattle.std.proofs.lemmas.Grind.{common_steps}
use Rattle.std.proofs.Common.{rules, ◌≡◌, ℕ, ◌+◌, ◌<◌, ◌≤◌, Bool, List, [], ◌∷◌, length, take, drop, refl, arith, length-take}
use Rattle.std.proofs.lemmas.List.{drop-drop, drop_all}
use Rattle.std.specs.Prelude.{Some, None}
use Rattle.std.specs.List.{position_or_len, position, slice_split}
use Rattle.std.proofs.lemmas.Bool.{lt-ltb, le-ltb}
use Rattle.std.proofs.lemmas.List.Splits.{slice_split_first, slice_split_none}
use Rattle.std.proofs.lemmas.List.Sums.{fails_before_first}
use Rattle.rv_base.specs.Words.{is_blank, words}

-- the place of the first element that passes, and that none passes
pub position_some : (p : ℕ → Bool) (xs : List ℕ) (n : ℕ) → Some n ≡ position p xs → n ≡ position_or_len p xs
position_some p xs n h = search rules

pub position_none : (p : ℕ → Bool) (xs : List ℕ) → None ≡ position p xs → length xs ≤ position_or_len p xs
position_none p xs h = search (rules, nat_tests)

split_first : (xs : List ℕ) (n : ℕ) → Some n ≡ position is_blank xs → n < length xs →
    slice_split is_blank xs ≡ take n xs ∷ slice_split is_blank (drop (n + 1) xs)
split_first xs n e h = grind (arith, nat_tests, common_steps, position_some, slice_split_first)

-- a word before a blank
pub words_first : (xs : List ℕ) (n : ℕ) → Some n ≡ position is_blank xs → n < length xs → 0 < n →
    words xs ≡ take n xs ∷ words (drop 1 (drop n xs))
unfolding words
words_first xs n e h some =
    let long : 0 < length (take n xs) = omega (arith, length-take n xs) in
    rw (split_first xs n e h, lt-ltb 0 (length (take n xs)) long, drop-drop 1 n xs) refl

-- a blank at the front
pub words_blank : (xs : List ℕ) (n : ℕ) → Some n ≡ position is_blank xs → n < length xs → n ≡ 0 →
    words xs ≡ words (drop 1 (drop n xs))
unfolding words
words_blank xs n e h none = grind (arith, nat_tests, common_steps, length-take, split_first, le-ltb, drop-drop)

-- no blank
pub words_last : (xs : List ℕ) → None ≡ position is_blank xs → 0 < length xs →
    words xs ≡ xs ∷ words (drop (length xs) xs)
unfolding words
words_last xs e some = grind (arith, nat_tests, common_steps, position_none, slice_split_none, fails_before_first, lt-ltb, drop_all)

pub words_none : (xs : List ℕ) → length xs ≡ 0 → words xs ≡ []
unfolding words
words_none [] h = refl
words_none (x ∷ xs) h = absurd (omega arith)

pub ruleset word_steps = (words_first, words_blank, words_last, words_none)
