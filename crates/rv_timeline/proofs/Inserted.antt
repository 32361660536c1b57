-- A list with one input more.
use Rattle.std.proofs.lemmas.Grind.{common_steps}
use Rattle.std.proofs.Common.{rules, arith, ◌≡◌, ℕ, ◌+◌, Bool, refl, sym, true, false, not, List, [], ◌∷◌, length}
use Rattle.std.proofs.lemmas.Bool.{and_parts, ltb-false}
use Rattle.std.proofs.lemmas.Bool.Decides.{nat_tests}
use Rattle.std.proofs.lemmas.List.Sums.{prefix_len-le-length}
use Rattle.std.specs.Prelude.{Option, nat_lt, insert, unwrap_or, if◌then◌else◌}
use Rattle.std.specs.List.{position, position_or_len}
use Rattle.rv_timeline.specs.declared.input.TimedInput.{TimedInput}
use Rattle.rv_timeline.specs.Timed.{never_falls, inserted}

-- in front of the first later input, or at the end
before_later : (xs : List TimedInput) (x : TimedInput)
    → insert xs (position_or_len (λ y. nat_lt x.step y.step) xs) x ≡ inserted xs x
unfolding inserted
before_later [] x = refl
before_later (y ∷ ys) x = elim (nat_lt x.step y.step) as (λ b.
    insert (y ∷ ys) (if not b then 1 + position_or_len (λ y. nat_lt x.step y.step) ys else 0) x
    ≡ (if b then x ∷ y ∷ ys else y ∷ inserted ys x)) [ true ↦ refl | false ↦ grind (arith, nat_tests, common_steps, before_later ys x) ]

place_is : (p : TimedInput → Bool) (xs : List TimedInput)
    → unwrap_or (position p xs) (length xs) ≡ position_or_len p xs
place_is p xs = search (rules, arith, ltb-false, prefix_len-le-length)

pub at_place : (xs : List TimedInput) (step n : ℕ) (later : Option ℕ) (x : TimedInput)
    → n ≡ unwrap_or later (length xs) → later ≡ position (λ y. nat_lt step y.step) xs → x.step ≡ step
    → inserted xs x ≡ insert xs n x
at_place xs step n later x at is same = rw (at, is, ← same, place_is (λ y. nat_lt x.step y.step) xs) (sym (before_later xs x))

-- ---- the steps never fall

pub rises : (xs : List TimedInput) (x : TimedInput) → never_falls xs ≡ true → never_falls (inserted xs x) ≡ true
unfolding never_falls inserted
rises (y ∷ z ∷ zs) x h = grind (arith, nat_tests, common_steps, and_parts, rises (z ∷ zs) x)
rises xs x h = search (rules, arith)
