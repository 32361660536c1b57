-- The trailing ones of a number.
use Rattle.std.proofs.lemmas.Grind.{common_steps}
use Rattle.std.proofs.Common.{rules, ◌≡◌, ℕ, zero, suc, ◌+◌, ◌-◌, ◌/◌, ◌%◌, ◌^◌, ◌<◌, ◌≤◌, ◌==◌, ◌*◌, refl, ap, ◌∙◌, arith, eqb-true, mul_assoc}
use Rattle.std.specs.Prelude.{if◌then◌else◌}
use Rattle.std.proofs.Math.Nat.{pow-suc}
use Rattle.std.specs.Int.Count.{count_trailing_zeros}
use Rattle.std.proofs.lemmas.Bool.Decides.{nat_tests}
use Rattle.std.proofs.lemmas.Nat.{shr-shr, pow_below}
use Rattle.std.specs.List.{prefix_len, range_with_len}
use Rattle.rv_isa.specs.Number.{bit}
use Rattle.rv_pmp.specs.Entry.{trailing_ones}
use Rattle.rv_pmp.specs.Support.Span.{span_of}
use Rattle.rv_pmp.specs.declared.entry.Entry.{Entry}
use Rattle.rv_pmp.specs.declared.entry.Matching.TheVariants.{Napot}
use Rattle.rv_pmp.specs.declared.span.Span.{Span}

-- the number of the lowest bits of a number that are ones, up to the first zero, among its n lowest bits
unfoldable pub ones_in : ℕ → ℕ → ℕ
ones_in zero number = 0
ones_in (suc n) number = if number % 2 == 1 then suc (ones_in n (number / 2)) else 0

-- a number with k trailing ones is at least 2 ^ k - 1
pub ones_in-le : (n p : ℕ) → 2 ^ ones_in n p ≤ p + 1
unfolding ones_in
ones_in-le zero p = omega arith
ones_in-le (suc n) p = grind (arith, nat_tests, common_steps, pow-suc, eqb-true, ones_in-le n (p / 2))

-- they are the trailing zeros of the complement
pub count_trailing_zeros-complement : (n p : ℕ) → p < 2 ^ n → count_trailing_zeros n (2 ^ n - 1 - p) ≡ ones_in n p
unfolding ones_in count_trailing_zeros
count_trailing_zeros-complement zero p h = refl
count_trailing_zeros-complement (suc n) p h = grind (arith, nat_tests, common_steps, pow-suc, eqb-true, count_trailing_zeros-complement n (p / 2))

-- ---- as the definition counts them

halved : (p a : ℕ) → p / 2 ^ a / 2 ≡ p / 2 ^ (a + 1)
halved p a = shr-shr p a 1

prefix-ones : (n a p : ℕ) → prefix_len (λ i. bit p i == 1) (range_with_len a n) ≡ ones_in n (p / 2 ^ a)
unfolding ones_in
prefix-ones zero a p = refl
prefix-ones (suc n) a p = grind (arith, nat_tests, common_steps, halved, prefix-ones n (a + 1) p)

pub trailing_ones-in : (p : ℕ) → trailing_ones p ≡ ones_in 32 p
trailing_ones-in p = prefix-ones 32 0 p ∙ ap (ones_in 32) (omega arith)

-- ---- the block of bytes of an address with k trailing ones

first_by : (n p : ℕ) → p < 2 ^ n → 4 * (p + 1 - 2 ^ ones_in n p) ≡ p / 2 ^ (ones_in n p + 1) * 2 ^ (ones_in n p + 3)
unfolding ones_in
first_by zero p small = let none : p ≡ 0 = omega arith in rw none refl
first_by (suc n) p small =
    let k = ones_in n (p / 2) in
    let rest = first_by n (p / 2) (omega (arith, pow-suc 2 n)) in
    let least = ones_in-le n (p / 2) in
    let next = mul_assoc (p / 2 / 2 ^ (k + 1)) (2 ^ (k + 3)) 2 in
    grind (arith, nat_tests, common_steps, rest, least, next, shr-shr p 1 (k + 1), pow-suc 2 k, pow-suc 2 (k + 3))

pub block_first : (p : ℕ) → p < 2 ^ 32
    → 4 * (p + 1 - 2 ^ trailing_ones p) ≡ p / 2 ^ (trailing_ones p + 1) * 2 ^ (trailing_ones p + 3)
block_first p small = rw (trailing_ones-in p) (first_by 32 p small)

power_fits : (k : ℕ) → k < 64 → 1 * 2 ^ k % 2 ^ 64 ≡ 2 ^ k
power_fits k small = omega (arith, pow_below k 64 small)

pub napot_span : (lower : ℕ) (e : Entry) (k : ℕ) → e.matching ≡ Napot → k ≡ trailing_ones e.address → k ≤ 32
    → e.address < 2 ^ 32 → ◌≡◌ {A = Span} (record {
      first = 4 * (e.address + 1 - 1 * 2 ^ k % 2 ^ 64);
      «end» = 4 * (e.address + 1 - 1 * 2 ^ k % 2 ^ 64) + 1 * 2 ^ (k + 3) % 2 ^ 64;
    }) (span_of lower e)
unfolding span_of
napot_span lower e k way is most small = search (rules, power_fits, block_first)

pub ruleset counting = (count_trailing_zeros-complement, trailing_ones-in, ones_in-le)
