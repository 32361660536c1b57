-- Reading the lines of a timed list, one by one.
use Rattle.std.proofs.lemmas.Bool.Decides.{nat_tests}
use Rattle.std.proofs.lemmas.Grind.{common_steps}
use Rattle.std.proofs.Common.{rules, ◌≡◌, ℕ, zero, suc, ◌+◌, ◌<◌, true, List, [], ◌∷◌, ◌++◌, length, take, drop, refl, ap, arith, add-one, append-nil, append_assoc, length-drop, below_more}
use Rattle.std.specs.Prelude.{Option, Some, None, is_some}
use Rattle.std.proofs.lemmas.List.{take_all}
use Rattle.rv_timeline.specs.declared.input.TimedInput.{TimedInput}
use Rattle.rv_timeline.specs.Timed.{all_of, timed_line, never_falls, timed}
use Rattle.rv_timeline.specs.Support.Reading.{IsFirstRefused, joined, with_line}

-- parts and then others
pub all_of_append : {A B : Type 0} (meaning : A → Option (List B)) (xs ys : List A)
    → all_of meaning (xs ++ ys) ≡ joined (all_of meaning xs) (all_of meaning ys)
unfolding all_of
all_of_append meaning [] ys = search (rules, arith)
all_of_append meaning (x ∷ xs) ys = search (rules, arith, append_assoc, all_of_append meaning xs)

-- ---- lines that have a list

pub listed : (texts : List (List ℕ)) (before : List TimedInput) → timed texts ≡ Some before
    → (all_of timed_line texts ≡ Some before) × (never_falls before ≡ true)
unfolding timed
listed texts before h = search (rules, arith)

pub rising : (texts : List (List ℕ)) (before : List TimedInput) → timed texts ≡ Some before
    → never_falls before ≡ true
rising texts before h = (listed texts before h).1

-- ---- the first n lines have these inputs, and the others are left

pub record SoFar (texts rest : List (List ℕ)) (n : ℕ) (inputs : List TimedInput) : Type 0 where
  pub left : rest ≡ drop n texts
  pub inputs_are : timed (take n texts) ≡ Some inputs
  pub taken : (k : ℕ) → k < n + 1 → is_some (timed (take k texts)) ≡ true

pub begun : (texts : List (List ℕ)) → SoFar texts texts 0 []
unfolding timed all_of never_falls
begun texts = search (rules, arith)

record IsAt (texts : List (List ℕ)) (n : ℕ) (text : List ℕ) (after : List (List ℕ)) : Type 0 where
  below : n < length texts
  front : take (suc n) texts ≡ take n texts ++ text ∷ []
  back : drop (suc n) texts ≡ after

dropped : (texts : List (List ℕ)) (n : ℕ) (text : List ℕ) (after : List (List ℕ))
    → drop n texts ≡ text ∷ after → IsAt texts n text after
dropped (t ∷ ts) (suc n) text after e = grind (arith, nat_tests, common_steps, dropped ts n text after e)
dropped (t ∷ ts) zero text after e = record { below = omega arith; front = ap (λ x. x ∷ []) cc; back = cc }
dropped [] zero text after e = absurd cc
dropped [] (suc n) text after e = absurd cc

module _ (texts rest : List (List ℕ)) (n : ℕ) (inputs : List TimedInput)
    (so : SoFar texts rest n inputs) where
  module _ (text : List ℕ) (after : List (List ℕ)) (cut : rest ≡ text ∷ after) where
    next_is : timed (take (n + 1) texts) ≡ with_line inputs (timed_line text)
    unfolding timed all_of
    next_is = search (rules, arith, add-one, dropped, all_of_append, append-nil, listed)

    pub read_more : (new : List TimedInput) → with_line inputs (timed_line text) ≡ Some new
        → SoFar texts after (n + 1) new
    read_more new e = search (rules, arith, add-one, dropped, next_is, below_more)

    pub refused : with_line inputs (timed_line text) ≡ None → (k : ℕ) → k ≡ n + 1 → IsFirstRefused texts k
    refused e k is = search (rules, arith, next_is)

  pub read_all : rest ≡ [] → timed texts ≡ Some inputs
  read_all h =
      let none : length rest ≡ 0 = rw h refl in
      rw (← take_all n texts (omega (arith, length-drop n texts, ap length so.left, none))) so.inputs_are
