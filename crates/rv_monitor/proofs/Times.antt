-- Lists of inputs whose times never fall.
use Rattle.std.proofs.Common.{rules, ◌≡◌, ◌∙◌, ℕ, suc, ◌+◌, ◌<◌, ◌≤◌, Bool, true, false, List, [], ◌∷◌, length, get_or, drop, refl, sym, ap, arith, zero-add}
use Rattle.std.specs.Prelude.{nat_le, nat_lt, ◌==◌, filter}
use Rattle.std.specs.List.{list_all}
use Rattle.std.proofs.lemmas.List.{drop_all, drop_more}
use Rattle.std.proofs.lemmas.List.Sums.{length-filter, count_by-le-length}
use Rattle.std.proofs.lemmas.Bool.{and_parts, leb-true, ltb-true, ltb-false, le-leb, le-ltb, lt-ltb, ne_eqb}
use Rattle.rv_timeline.specs.declared.input.TimedInput.{TimedInput}
use Rattle.rv_timeline.specs.Timed.{never_falls}
use Rattle.rv_monitor.specs.State.{count_before}

-- ---- lists that never fall

-- whether each input's time is at least t
abbrev pub from : ℕ → List TimedInput → Bool
from t xs = list_all (λ x. nat_le t x.step) xs

pub head_from : (t : ℕ) (x : TimedInput) (xs : List TimedInput) → from t (x ∷ xs) ≡ true → t ≤ x.step
head_from t x xs h = search (rules, arith, leb-true, and_parts)

pub tail_from : (t : ℕ) (x : TimedInput) (xs : List TimedInput) → from t (x ∷ xs) ≡ true → from t xs ≡ true
tail_from t x xs h = search (rules, arith, and_parts)

-- the inputs of time t
abbrev pub of : ℕ → List TimedInput → List TimedInput
of t xs = filter (λ x. x.step == t) xs

pub tail_rises : (x : TimedInput) (xs : List TimedInput) → never_falls (x ∷ xs) ≡ true → never_falls xs ≡ true
unfolding never_falls
tail_rises x xs h = search (rules, arith, and_parts)

pub all_from : (t : ℕ) (x : TimedInput) (xs : List TimedInput) → never_falls (x ∷ xs) ≡ true → t ≤ x.step →
    from t (x ∷ xs) ≡ true
unfolding never_falls
all_from t x [] h k = rw (le-leb t x.step k) refl
all_from t x (y ∷ ys) h k = search (rules, arith, leb-true, and_parts, le-leb, tail_rises, all_from t y ys)

pub drop_rises : (n : ℕ) (xs : List TimedInput) → never_falls xs ≡ true → never_falls (drop n xs) ≡ true
drop_rises (suc n) (x ∷ xs) h = drop_rises n xs (tail_rises x xs h)
drop_rises n xs h = h

-- the time of the input at an index is the least from there on, and after the last there is none
pub from_place : (xs : List TimedInput) (n : ℕ) (d : TimedInput) → never_falls xs ≡ true → n < length xs →
    from (get_or xs n d).step (drop n xs) ≡ true
from_place xs n d h k = rw (drop_more xs n d k) (all_from _ (get_or xs n d) (drop (n + 1) xs)
    (rw (← drop_more xs n d k) (drop_rises n xs h)) (omega arith))

pub from_end : (t n : ℕ) (xs : List TimedInput) → length xs ≤ n → from t (drop n xs) ≡ true
from_end t n xs h = rw (drop_all n xs h) refl

-- a time that all inputs have reached is at most the time of the first
pub place_from : (xs : List TimedInput) (n : ℕ) (d : TimedInput) (t : ℕ) → n < length xs →
    from t (drop n xs) ≡ true → t ≤ (get_or xs n d).step
place_from xs n d t k h = head_from t (get_or xs n d) (drop (n + 1) xs) (ap (from t) (sym (drop_more xs n d k)) ∙ h)

-- and all of them have reached each earlier time
pub from_earlier : (t u : ℕ) (xs : List TimedInput) → from u xs ≡ true → t ≤ u → from t xs ≡ true
from_earlier t u [] h k = refl
from_earlier t u (x ∷ xs) h k = search (rules, arith, head_from, le-leb, tail_from, from_earlier t u xs)

pub drop_from : (t n : ℕ) (xs : List TimedInput) → from t xs ≡ true → from t (drop n xs) ≡ true
drop_from t (suc n) (x ∷ xs) h = drop_from t n xs (tail_from t x xs h)
drop_from t n xs h = h

-- no input is before a time that all have reached
pub none_before : (t : ℕ) (xs : List TimedInput) → from t xs ≡ true → count_before t xs ≡ 0
none_before t [] h = refl
none_before t (x ∷ xs) h = search (rules, arith, head_from, le-ltb, tail_from, none_before t xs)

pub from_first : (xs : List TimedInput) → from 0 xs ≡ true
from_first [] = refl
from_first (x ∷ xs) = rw (le-leb 0 x.step (omega arith)) (from_first xs)

pub count_most : (t : ℕ) (xs : List TimedInput) → count_before t xs ≤ length xs
count_most t xs = search (rules, arith, length-filter, count_by-le-length)

-- the inputs before a time are dropped, and the others stay
module _ (t : ℕ) where
  abbrev late : List TimedInput → List TimedInput
  late xs = drop (count_before t xs) xs

  -- an input that is not before t, as those after it are not
  late_all : (x : TimedInput) (xs : List TimedInput) → never_falls (x ∷ xs) ≡ true → nat_lt x.step t ≡ false →
      count_before t (x ∷ xs) ≡ 0
  late_all x xs h e = search (rules, arith, none_before, all_from, ltb-false)

  pub late_from : (xs : List TimedInput) → never_falls xs ≡ true → from t (late xs) ≡ true
  late_from [] h = refl
  late_from (x ∷ xs) h = search (rules, arith, late_all, all_from, ltb-false, tail_rises, late_from xs (tail_rises x xs h))

  module _ (u : ℕ) (k : t ≤ u) where
    pub late_of : (xs : List TimedInput) → never_falls xs ≡ true → of u (late xs) ≡ of u xs
    late_of [] h = refl
    late_of (x ∷ xs) h = search (rules, arith, ltb-true, ne_eqb, late_all, tail_rises, late_of xs (tail_rises x xs h))

    pub late_count : (xs : List TimedInput) → never_falls xs ≡ true →
        count_before t xs + count_before u (late xs) ≡ count_before u xs
    late_count [] h = refl
    late_count (x ∷ xs) h = search (rules, arith, ltb-true, lt-ltb, late_all, zero-add, tail_rises, late_count xs (tail_rises x xs h))

-- no input after one of a later time is of time t
pub none_of : (t : ℕ) (xs : List TimedInput) → from (t + 1) xs ≡ true → of t xs ≡ []
none_of t [] h = refl
none_of t (x ∷ xs) h = search (rules, arith, head_from, ne_eqb, tail_from, none_of t xs)
