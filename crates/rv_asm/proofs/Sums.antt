-- Summing the terms of an expression, one by one, and sums of a single symbol and a number.
use Rattle.std.proofs.lemmas.Bool.Decides.{nat_tests}
use Rattle.std.proofs.lemmas.Grind.{common_steps}
use Rattle.std.proofs.Common.{◌≡◌, ℕ, ◌*◌, ◌^◌, ◌<◌, ◌≤◌, List, ◌∷◌, ℤ, pos, get_or, length, Bool, true, false, arith, rules}
use Rattle.std.proofs.lemmas.Int.{ints}
use Rattle.rv_source.specs.declared.expression.Term.{Term}
use Rattle.rv_asm.specs.Values.{is_word}
use Rattle.rv_asm.specs.Symbols.{sum_value}
use Rattle.rv_asm.specs.Support.Statements.{IsNear, added}
use Rattle.rv_asm.specs.declared.kept.Single.{Single}
use Rattle.rv_asm.specs.Support.Steps.{IsNumber, IsSum}

pub near_more : (x : Term) (xs all : List Term) (sum v : ℤ) (negative : Bool) → IsNear (4294967296 * length xs) sum →
    is_word v ≡ true → x ∷ xs ≡ all → IsNear (4294967296 * length all) (added sum negative v)
near_more x xs all sum v negative near word is = search (rules, ints)

-- so many terms stay far from the limits of 64 bits
pub near_enough : (n : ℕ) (sum : ℤ) → IsNear (4294967296 * n) sum → n < 1024 → IsNear (2 ^ 62) sum
near_enough n sum near h = search (rules, ints)

nothing_added : (v : ℤ) → v ≡ added v false (pos 0)
nothing_added v = omega (arith, ints)

pub sum_of_one : (terms more : List Term) (only : Term) (s : Single) → only ∷ more ≡ terms → length more < 1 →
    s ≡ record { negated = only.negative; atom = only.atom; negative = false; number = 0 } → IsSum terms s
unfolding sum_value
sum_of_one terms more only s all short is ds line here = grind (arith, nat_tests, common_steps, nothing_added, pos)

swapped : (first second : Bool) (n : ℕ) (v : ℤ) →
    added (added (pos 0) second (pos n)) first v ≡ added (added (pos 0) first v) second (pos n)
swapped first second n v = search (rules, ints)

pub sum_of_two : (terms more : List Term) (first second : Term) (s : Single) (n : ℕ) → first ∷ more ≡ terms →
    1 ≤ length more → length more < 2 → second ≡ get_or more 0 second → IsNumber second.atom n →
    s ≡ record { negated = first.negative; atom = first.atom; negative = second.negative; number = n } →
    IsSum terms s
unfolding sum_value
sum_of_two terms more first second s n all some short at number is ds line here =
    grind (arith, nat_tests, common_steps, swapped)
