-- Words as signed numbers, and signed numbers as words.
use Rattle.std.proofs.lemmas.Bool.Decides.{nat_tests}
use Rattle.std.proofs.lemmas.Grind.{common_steps}
use Rattle.std.proofs.Common.{rules, ◌≡◌, ◌∙◌, ℕ, zero, suc, ◌-◌, ◌^◌, ◌<◌, ◌≤◌, refl, ap, ℤ, pos, ◌*ℤ◌, w32, w64, SFits, to_z, of_z, arith}
use Rattle.std.specs.Prelude.{int_div, int_rem}
use Rattle.std.specs.Int.{int_wrapping_div}
use Rattle.std.specs.Int.RustNames.{unsigned_abs}
use Rattle.std.proofs.lemmas.Int.{of_z-to_z, to_z-of_z, to_z_pos, fits_signed_mul}
use native.Mathlib.Nat.{div-le_self, mod-le}
use lib.IntN.{neg_ℤ}
use Rattle.rv_isa.specs.Number.{signed, to_word}

-- a cast to a signed number
signed_is : (a : ℕ) → to_z w32 a ≡ signed a
signed_is a = grind (arith, nat_tests, common_steps)

-- a number after casts to a word, to 64 bits and back
widened : (x : ℤ) → SFits w32 x → to_z w64 (of_z w64 (to_z w32 (of_z w32 x))) ≡ x
widened x f = search (rules, to_z-of_z)

abs_le : (x : ℤ) → SFits w32 x → unsigned_abs x ≤ 2 ^ 31
abs_le x f = search rules

-- the product of two words as signed numbers, and of a signed and an unsigned one, in 64 bits
pub signed_product : (a b : ℕ) (x y : ℤ) → SFits w32 x → SFits w32 y → x ≡ to_z w32 a → y ≡ to_z w32 b
    → to_z w64 (of_z w64 (to_z w64 (of_z w64 (to_z w32 (of_z w32 x))) *ℤ to_z w64
    (of_z w64 (to_z w32 (of_z w32 y))))) ≡ signed a *ℤ signed b
signed_product a b x y f g e d = grind (arith, nat_tests, common_steps, widened, to_z-of_z, fits_signed_mul, abs_le, signed_is)

mixed_factors : (x : ℤ) (b : ℕ) → SFits w32 x → b < 2 ^ 32 →
    to_z w64 (of_z w64 (to_z w32 (of_z w32 x))) *ℤ to_z w64 b ≡ x *ℤ pos b
mixed_factors x b f h = λ i. widened x f i *ℤ to_z_pos w64 b (omega arith) i

mixed_is_small : (x : ℤ) (b : ℕ) → SFits w32 x → b < 2 ^ 32 → SFits w64 (x *ℤ pos b)
mixed_is_small x b f h = fits_signed_mul w64 x (pos b) (2 ^ 31) (2 ^ 32 - 1) (abs_le x f) (omega arith) (omega arith)

pub mixed_fits : (x : ℤ) (b : ℕ) → SFits w32 x → b < 2 ^ 32 →
    SFits w64 (to_z w64 (of_z w64 (to_z w32 (of_z w32 x))) *ℤ to_z w64 b)
mixed_fits x b f h = rw (mixed_factors x b f h) (mixed_is_small x b f h)

pub mixed_product : (a b : ℕ) (x : ℤ) → SFits w32 x → b < 2 ^ 32 → x ≡ to_z w32 a
    → to_z w64 (of_z w64 (to_z w64 (of_z w64 (to_z w32 (of_z w32 x))) *ℤ to_z w64 b)) ≡ signed a *ℤ pos b
mixed_product a b x f h e = grind (arith, nat_tests, common_steps, mixed_factors, to_z-of_z, mixed_is_small, signed_is)

-- the word of a quotient and of a remainder, neither of which is above its dividend
word_above : (n : ℕ) → n ≤ 2 ^ 31 → n ≡ to_word (pos n)
word_above n h = omega arith

word_below : (n : ℕ) → n ≤ 2 ^ 31 → of_z w32 (neg_ℤ (pos n)) ≡ to_word (neg_ℤ (pos n))
word_below zero h = refl
word_below (suc n) h = omega arith

is_word : (z : ℤ) → to_word z < 2 ^ 32
is_word z = search rules

quotient : (x y : ℤ) → SFits w32 x → of_z w32 (int_div x y) ≡ to_word (int_div x y)
quotient x y f = search (rules, word_above, word_below, div-le_self)

pub quotient_word : (x y : ℤ) → SFits w32 x → of_z w32 (int_wrapping_div w32 x y) ≡ to_word (int_div x y)
quotient_word x y f = ap (λ (n : ℕ). of_z w32 (to_z w32 n)) (quotient x y f)
    ∙ of_z-to_z w32 (to_word (int_div x y)) (is_word (int_div x y))

pub remainder_word : (x y : ℤ) → SFits w32 x → of_z w32 (int_rem x y) ≡ to_word (int_rem x y)
remainder_word x y f = search (rules, word_above, word_below, mod-le)

-- the value of an operation on the signed numbers of two words, cast to a word
pub word_of : (op : ℤ → ℤ → ℤ) (meaning : ℤ → ℤ → ℕ) (a b r : ℕ) (x y z : ℤ) → SFits w32 x → SFits w32 y → SFits w32 z
    → x ≡ to_z w32 a → y ≡ to_z w32 b → z ≡ op (to_z w32 (of_z w32 x)) (to_z w32 (of_z w32 y)) →
    r ≡ of_z w32 (to_z w32 (of_z w32 z)) → of_z w32 (op x y) ≡ meaning x y → r ≡ meaning (signed a) (signed b)
word_of op meaning a b r x y z f g h e d is was small = grind (arith, nat_tests, common_steps, to_z-of_z, signed_is)

pub ruleset word_laws = (word_of, quotient_word, remainder_word)
