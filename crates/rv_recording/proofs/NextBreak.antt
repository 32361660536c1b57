-- The first breakpoint from an address on.
use Rattle.std.proofs.Common.{rules, ◌≡◌, ◌∙◌, ℕ, ◌<◌, ◌≤◌, Bool, true, false, List, [], ◌∷◌, fold, refl, arith}
use Rattle.std.proofs.lemmas.Bool.{false≢true}
use Rattle.std.proofs.lemmas.Bool.Decides.{nat_tests}
use Rattle.std.specs.Prelude.{◌||◌, nat_eq, Option, Some, None}
use Rattle.std.specs.List.{list_any}
use Rattle.std.proofs.Math.Bool.{or_assoc}
use Rattle.std.specs.FinSet as set
use Rattle.rv_monitor.specs.State.{Addresses}
use Rattle.rv_monitor.proofs.Sets.{has}
use Rattle.rv_recording.specs.Breaks.{IsNext}
use Rattle.rv_recording.specs.Support.Nearer.{nearer}

-- the first number that passes a test, at `from` or above it
abbrev IsFirst : (ℕ → Bool) → ℕ → Option ℕ → Type 0
IsFirst p from None = (a : ℕ) → from ≤ a → p a ≡ false
IsFirst p from (Some n) = (from ≤ n) × (p n ≡ true) × ((a : ℕ) → from ≤ a → a < n → p a ≡ false)

-- one number more
step : (p : ℕ → Bool) (from x : ℕ) (o : Option ℕ) → IsFirst p from o
    → IsFirst (λ a. p a || nat_eq a x) from (nearer from o x)
step p from x o h = search (rules, arith, nat_tests, false≢true)

-- all of them, where those before them are given by a test
first : (from : ℕ) (xs : List ℕ) (p q : ℕ → Bool) (o : Option ℕ) → ((a : ℕ) → (p a || list_any (nat_eq a) xs) ≡ q a)
    → IsFirst p from o → IsFirst q from (fold (nearer from) o xs)
first from [] p q o e h = search (rules, arith)
first from (x ∷ xs) p q o e h = first from xs (λ a. p a || nat_eq a x) q (nearer from o x)
    (λ a. or_assoc (p a) (nat_eq a x) (list_any (nat_eq a) xs) ∙ e a) (step p from x o h)

by_result : (from : ℕ) (xs : List ℕ) (s : Addresses) (r : Option ℕ) → set.from_list xs ≡ s
    → IsFirst (λ a. list_any (nat_eq a) xs) from r → IsNext s from r
by_result from xs s None e h = search (rules, arith, has)
by_result from xs s (Some n) e h = search (rules, arith, has)

pub is_next : (from : ℕ) (xs : List ℕ) (s : Addresses) (r : Option ℕ) → set.from_list xs ≡ s
    → r ≡ fold (nearer from) None xs → IsNext s from r
is_next from xs s r e f = by_result from xs s r e
    (rw f (first from xs (λ a. false) (λ a. list_any (nat_eq a) xs) None (λ a. refl) (λ a l. refl)))
