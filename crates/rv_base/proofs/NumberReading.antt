-- Reading a number, digit by digit.
use Rattle.std.proofs.lemmas.Bool.Decides.{nat_tests}
use Rattle.std.proofs.lemmas.Grind.{common_steps}
use Rattle.std.proofs.Common.{◌≡◌, ℕ, ◌+◌, ◌*◌, ◌<◌, ◌≤◌, List, [], ◌∷◌, length, drop, fold, get_or, refl, arith, add-one}
use Rattle.std.specs.List.{list_all}
use Rattle.std.specs.Prelude.{Option, None, Some, if◌then◌else◌, nat_le, nat_lt, ◌&&◌}
use Rattle.std.proofs.lemmas.Bool.{lt-leb, le-leb, lt-ltb, le-ltb}
use Rattle.std.proofs.Math.Bool.{and-false}
use Rattle.std.proofs.Math.Nat.{mul-le-mul_right}
use Rattle.std.proofs.Math.Seq.{drop-cons}
use Rattle.std.proofs.lemmas.List.{drop_all}
use Rattle.std.proofs.lemmas.List.Folds.{list_all_at}
use Rattle.rv_base.specs.Numbers.{digit_value, number_in}

-- the number that more digits make of the sum of those before
unfoldable pub rest_in : ℕ → ℕ → ℕ → List ℕ → Option ℕ
rest_in base most sum digits =
    let value = fold (λ v b. base * v + digit_value b) sum digits in
    if list_all (λ b. nat_lt (digit_value b) base) digits && nat_le value most then Some value else None

pub whole_number : (base most : ℕ) (ds : List ℕ) → 0 < length ds → rest_in base most 0 ds ≡ number_in base most ds
unfolding number_in rest_in
whole_number base most ds h = rw (le-leb 1 (length ds) (omega arith)) refl

pub no_number : (base most : ℕ) (ds : List ℕ) → length ds ≡ 0 → number_in base most ds ≡ None
unfolding number_in
no_number base most ds h = rw (lt-leb 1 (length ds) (omega arith)) refl

pub last_digit : (base most sum i : ℕ) (ds : List ℕ) → length ds ≤ i → sum ≤ most → rest_in base most sum (drop i ds) ≡ Some sum
unfolding rest_in
last_digit base most sum i ds h small = rw (drop_all i ds h, le-leb sum most small) refl

pub bad_digit : (base most sum i : ℕ) (ds : List ℕ) → i < length ds → base ≤ digit_value (get_or ds i 0) →
    rest_in base most sum (drop i ds) ≡ None
unfolding rest_in
bad_digit base most sum i ds h bad = rw (drop-cons ds i 0 h, le-ltb (digit_value (get_or ds i 0)) base bad) refl

pub next_digit : (base most sum i : ℕ) (ds : List ℕ) → i < length ds → digit_value (get_or ds i 0) < base →
    rest_in base most sum (drop i ds) ≡ rest_in base most (base * sum + digit_value (get_or ds i 0)) (drop (i + 1) ds)
unfolding rest_in
next_digit base most sum i ds h good = grind (arith, nat_tests, common_steps, drop-cons, lt-ltb, add-one)

-- more digits make no smaller number
grows : (base : ℕ) → 1 ≤ base → (v : ℕ) (ds : List ℕ) → v ≤ fold (λ v b. base * v + digit_value b) v ds
grows base h v [] = omega arith
grows base h v (d ∷ ds) = omega (arith, grows base h (base * v + digit_value d) ds, mul-le-mul_right v h)

pub too_large : (base most sum : ℕ) (ds : List ℕ) → 1 ≤ base → most < sum → rest_in base most sum ds ≡ None
unfolding rest_in
too_large base most sum ds low h = grind (arith, nat_tests, common_steps, lt-leb, fold, grows, and-false)

-- no number has another byte
pub no_digits : (base most i : ℕ) (ds : List ℕ) → i < length ds → base ≤ digit_value (get_or ds i 0) →
    number_in base most ds ≡ None
unfolding number_in
no_digits base most i ds h bad = grind (arith, nat_tests, common_steps, list_all_at, le-ltb, and-false)

pub ruleset digit_steps = (no_number, whole_number, bad_digit, next_digit, too_large, last_digit)
