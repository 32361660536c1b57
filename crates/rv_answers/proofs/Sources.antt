-- The words of the interrupt controller's registers, by their offsets, and what a function gives of some numbers.
use Rattle.std.proofs.Common.{rules, ◌≡◌, ℕ, ◌+◌, ◌-◌, ◌*◌, ◌<◌, ◌≤◌, List, [], ◌∷◌, ◌++◌, map, refl, arith}
use Rattle.std.specs.List.{range_with_len}
use Rattle.std.proofs.lemmas.Bool.Decides.{nat_tests}
use Rattle.std.proofs.lemmas.List.FromFn.{map-range_with_len_more}
use Rattle.rv_plic.specs.Gateways.{PlicState}
use Rattle.rv_plic.specs.Plic.{plic_register, priority_of}
use Rattle.rv_plic.specs.Support.Registers.{reg_at}
use Rattle.rv_plic.specs.Sources.{word_of}
use Rattle.rv_plic.proofs.Rows.{loads}

pub pending_word : (p : PlicState) → (plic_register 0x1000).word p ≡ word_of p.pending
unfolding reg_at
pending_word p = loads p 0x1000 refl

pub enabled_word : (p : PlicState) → (plic_register 0x2000).word p ≡ word_of p.enabled
unfolding reg_at
enabled_word p = loads p 0x2000 refl

pub threshold_word : (p : PlicState) → (plic_register 0x200000).word p ≡ p.threshold
unfolding reg_at
threshold_word p = loads p 0x200000 refl

pub priority_word : (p : PlicState) (s : ℕ) → 0 < s → s < 32 → (plic_register (4 * s)).word p ≡ priority_of p s
unfolding reg_at
priority_word p s low high = search (rules, arith, nat_tests, loads)

-- ---- what a function gives of some numbers

module _ {A : Type 0} (f : ℕ → A) (a : ℕ) where
  pub no_items : [] ≡ map f (range_with_len a 0)
  no_items = refl

  pub next_item : (n m k : ℕ) (v : A) (xs ys : List A) → m ≡ n + 1 → k ≡ a + n → v ≡ f k
      → xs ≡ map f (range_with_len a n) → ys ≡ xs ++ v ∷ [] → ys ≡ map f (range_with_len a m)
  next_item n m k v xs ys more is e h g = search (rules, arith, map-range_with_len_more)

  pub all_items : (n count : ℕ) (xs : List A) → count ≤ n → n ≤ count → xs ≡ map f (range_with_len a n)
      → xs ≡ map f (range_with_len a count)
  all_items n count xs low high e = search (rules, arith)

pub next_source : {A : Type 0} (f : ℕ → A) (n s : ℕ) (xs ys : List A) → s ≡ n → 0 < n
    → xs ≡ map f (range_with_len 1 (n - 1)) → ys ≡ xs ++ f s ∷ [] → ys ≡ map f (range_with_len 1 (n + 1 - 1))
next_source f n s xs ys is low e h = next_item f 1 (n - 1) _ s _ xs ys (omega arith) (omega arith) refl e h
