-- The bytes that an entry of protection matches, and what a function gives of the numbers that pass a test.
use Rattle.std.proofs.Common.{rules, ◌≡◌, ◌∙◌, ℕ, zero, suc, ◌+◌, ◌-◌, ◌^◌, ◌<◌, ◌≤◌, Bool, true, false, cond, List, [], ◌∷◌, ◌++◌, refl, sym, ap, nat_le, nat_lt, append-nil, arith}
use Rattle.std.specs.Prelude.{Some, None, filter, map, max, min, ◌&&◌}
use Rattle.std.specs.List.{range_with_len}
use Rattle.std.proofs.lemmas.Bool.Decides.{nat_tests}
use Rattle.std.proofs.lemmas.List.FromFn.{get_or-range_with_len, length-range_with_len}
use Rattle.rv_pmp.specs.Pmp.{PmpState, matches}
use Rattle.rv_answers.specs.States.{bytes_of, range_of}

-- the last of some numbers
pub last_number : (a n : ℕ) → range_with_len a (suc n) ≡ range_with_len a n ++ (a + n) ∷ []
last_number a zero = search (rules, arith)
last_number a (suc n) = search (rules, arith, (last_number (a + 1) n))

-- ---- the bytes between two

same_range : (a b m n : ℕ) → a ≡ b → m ≡ n → range_with_len a m ≡ range_with_len b n
same_range a b m n e h = cc

none_of : (a n : ℕ) → n ≡ 0 → range_with_len a n ≡ []
none_of a n e = rw e refl

-- one more before some
step : (f e a n : ℕ) (b c : Bool) (xs : List ℕ) → b ≡ (nat_le f a && nat_lt a e) → c ≡ nat_lt a f
    → xs ≡ range_with_len (max (a + 1) f) (min e (a + 1 + n) - max (a + 1) f)
    → cond b (a ∷ xs) xs ≡ range_with_len (max a f) (min e (a + suc n) - max a f)
step f e a n b c xs is less h = grind (arith, nat_tests, same_range, none_of)

between : (p : ℕ → Bool) (f e : ℕ) → ((b : ℕ) → p b ≡ (nat_le f b && nat_lt b e)) → (a n : ℕ)
    → filter p (range_with_len a n) ≡ range_with_len (max a f) (min e (a + n) - max a f)
between p f e is a zero = sym (none_of _ _ (omega arith))
between p f e is a (suc n) = step f e a n (p a) (nat_lt a f) _ (is a) refl (between p f e is (a + 1) n)

range_is : (f n : ℕ) → range_of (range_with_len f (suc n)) ≡ Some (record { first = f; last = f + n })
range_is f n = search (rules, arith, nat_tests, length-range_with_len, get_or-range_with_len)

module _ (pmp : PmpState) (n f e : ℕ) (is : (b : ℕ) → matches pmp n b ≡ (nat_le f b && nat_lt b e)) where
  bytes_are : bytes_of pmp n ≡ range_with_len f (min e (2 ^ 34) - f)
  unfolding bytes_of
  bytes_are = between (matches pmp n) f e is 0 (2 ^ 34) ∙ same_range _ _ _ _ (omega arith) (omega arith)

  pub no_range : min e (2 ^ 34) ≤ f → None ≡ range_of (bytes_of pmp n)
  no_range h = search (rules, arith, bytes_are, none_of)

  pub has_range : (last : ℕ) → f < min e (2 ^ 34) → last ≡ min e (2 ^ 34) - 1
      → Some (record { first = f; last = last }) ≡ range_of (bytes_of pmp n)
  has_range last h at =
      sym (ap range_of (bytes_are ∙ same_range f f _ (suc (min e (2 ^ 34) - f - 1)) refl (omega arith))
      ∙ (range_is f _ ∙ ap (λ l. Some (record { first = f; last = l })) (omega arith)))

-- ---- the numbers that pass a test

module _ {A : Type 0} (f : ℕ → A) (p : ℕ → Bool) where
  pub none_yet : [] ≡ map f (filter p (range_with_len 0 0))
  none_yet = refl

  pub one_more : (a n j : ℕ) → a + n ≡ j → map f (filter p (range_with_len a (n + 1)))
      ≡ map f (filter p (range_with_len a n)) ++ cond (p j) (f j ∷ []) []
  one_more a zero j e = search (rules, arith)
  one_more a (suc n) j e = search (rules, arith, (one_more (a + 1) n j))

  pub next_found : (n : ℕ) (xs ys : List A) → p n ≡ true → xs ≡ map f (filter p (range_with_len 0 n))
      → ys ≡ xs ++ f n ∷ [] → ys ≡ map f (filter p (range_with_len 0 (n + 1)))
  next_found n xs ys e h g = rw (one_more 0 n n (omega arith), e, g, h) refl

  pub none_found : (n : ℕ) (xs : List A) → p n ≡ false → xs ≡ map f (filter p (range_with_len 0 n))
      → xs ≡ map f (filter p (range_with_len 0 (n + 1)))
  none_found n xs e h = rw (one_more 0 n n (omega arith), e, append-nil, h) refl

  pub all_found : (n count : ℕ) (xs : List A) → count ≤ n → n ≤ count → xs ≡ map f (filter p (range_with_len 0 n))
      → xs ≡ map f (filter p (range_with_len 0 count))
  all_found n count xs low high h = search (rules, arith)
