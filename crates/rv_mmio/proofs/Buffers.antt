-- A ring that is filled with the items of another.
use Rattle.std.proofs.Common.{◌≡◌, ◌∙◌, ℕ, ◌-◌, ◌≤◌, List, [], ◌++◌, length, ap, arith, length-append}
use Rattle.std.specs.Prelude.{drop}
use Rattle.circular_buffer.specs.Buffer.{Buffer, keep_last}

module _ {X : Type 0} where
  keep_all : (n : ℕ) (xs : List X) → length xs ≤ n → keep_last n xs ≡ xs
  keep_all n xs h = let none : length xs - n ≡ 0 = omega arith in ap (λ k. drop k xs) none

  pub filled : (n : ℕ) (xs ys : List X) (b : Buffer X) → xs ++ ys ≡ b.items → length b.items ≤ n
      → keep_last n (keep_last n ([] ++ xs) ++ ys) ≡ b.items
  filled n xs ys b e h =
      let long = length-append xs ys in
      let both = ap length e in
      ap (λ zs. keep_last n (zs ++ ys)) (keep_all n xs (omega arith))
      ∙ (keep_all n (xs ++ ys) (omega arith) ∙ e)
