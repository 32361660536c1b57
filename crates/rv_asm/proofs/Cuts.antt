-- Lists in order of a number, looked up by binary search: the place at which the number passes one.
use Rattle.std.proofs.lemmas.Grind.{common_steps}
use Rattle.std.proofs.Common.{◌≡◌, ℕ, zero, suc, ◌<◌, ◌≤◌, true, false, List, [], ◌∷◌, length, take, get_or, ◌+◌, refl, arith, leb, ◌-◌, rules}
use Rattle.std.proofs.lemmas.Option.{slice_get-get_or}
use Rattle.std.specs.Prelude.{Option, Some, None, filter, nat_le, nat_lt, slice_get}
use Rattle.std.specs.List.{find, last_or}
use Rattle.std.specs.List.Sorted.{IsPartitionPoint}
use Rattle.std.proofs.lemmas.Bool.Decides.{nat_tests}
use Rattle.rv_asm.specs.Support.Statements.{last_of}

last_taken : {X : Type 0} (o : Option X) (xs : List X) (k : ℕ) → k < length xs →
    last_or o (take (suc k) xs) ≡ slice_get xs k
last_taken o [] k h = absurd (omega arith)
last_taken o (x ∷ xs) k h = search (rules, last_taken (Some x) xs)

pub last_some : {X : Type 0} (xs : List X) (i j : ℕ) (x : X) → x ≡ get_or xs j x → j + 1 ≡ i → i ≤ length xs →
    last_of xs i ≡ Some x
last_some xs i j x e h p = search (rules, slice_get-get_or)

module _ {X : Type 0} (n : X → ℕ) (t : ℕ) where
  -- n is at most t for the first i elements, and above it for the others
  abbrev pub IsCut : List X → ℕ → Type 0
  IsCut xs i = IsPartitionPoint (λ x. leb (n x) t ≡ true) (λ x. leb (n x) t ≡ false) xs i

  rest : (x : X) (xs : List X) (i : ℕ) → IsCut (x ∷ xs) (suc i) → IsCut xs i
  rest x xs i c = (λ k d p q. c.0 (suc k) d (omega arith) (omega arith), λ k d p q. c.1 (suc k) d (omega arith) (omega arith))

  none : (x : X) (xs : List X) → IsCut (x ∷ xs) zero → IsCut xs zero
  none x xs c = (λ k d p q. absurd (omega arith), λ k d p q. c.1 (suc k) d (omega arith) (omega arith))

  first : (xs : List X) (i : ℕ) → i ≤ length xs → IsCut xs i → filter (λ x. nat_le (n x) t) xs ≡ take i xs
  first [] i h c = grind (arith, nat_tests)
  first (x ∷ xs) zero h c = grind (arith, nat_tests, c.1 zero x, first xs zero, none x xs c)
  first (x ∷ xs) (suc i) h c = grind (arith, nat_tests, c.0 zero x, first xs i, rest x xs i c)

  pub last_cut : (xs : List X) (i : ℕ) → i ≤ length xs → IsCut xs i →
      last_or None (filter (λ x. nat_le (n x) t) xs) ≡ last_of xs i
  last_cut xs i h c = rw (first xs i h c) (search (rules, last_taken))

  pub next_cut : (xs : List X) (i : ℕ) → i ≤ length xs → IsCut xs i →
      find (λ x. nat_lt t (n x)) xs ≡ slice_get xs i
  next_cut [] i h c = refl
  next_cut (x ∷ xs) zero h c = grind (arith, nat_tests, c.1 zero x)
  next_cut (x ∷ xs) (suc i) h c = grind (arith, nat_tests, c.0 zero x, next_cut xs i, rest x xs i c)

-- ---- the line of an address, which is the place at which the addresses pass it

above : (xs : List ℕ) (a n : ℕ) → a < get_or xs n 0 → n < length xs
above xs a n h = grind (arith, nat_tests, common_steps)

module _ (xs : List ℕ) (a n m : ℕ) (c : IsPartitionPoint (λ x. nat_le x a ≡ true) (λ x. nat_le x a ≡ false) xs n)
    (some : 0 < m) (from : get_or xs (m - 1) 0 ≤ a) (to : a < get_or xs m 0) where
  pub one_line : m ≡ n
  one_line = search (rules, above)

  pub no_line : length xs ≤ n → ⊥
  no_line h = search (rules, above, one_line)
