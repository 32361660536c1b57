-- Values in lists of bytes.
use Rattle.std.proofs.Common.{◌≡◌, ℕ, zero, suc, ◌+◌, ◌*◌, ◌<◌, List, slice_index, arith, refl, rules}
use Rattle.rv_ram.specs.Bytes.{value_at}

-- the same bytes have the same value
pub same_value : (xs ys : List ℕ) (i j n : ℕ) → ((k : ℕ) → k < n → slice_index xs (i + k) ≡ slice_index ys (j + k))
    → value_at xs i n ≡ value_at ys j n
unfolding value_at
same_value xs ys i j zero same = refl
same_value xs ys i j (suc n) same = search (rules, same_value xs ys i j n (λ k less. same k (omega arith)))

-- ---- values by their bytes

pub byte_value : (bs : List ℕ) (i : ℕ) → slice_index bs i ≡ value_at bs i 1
unfolding value_at
byte_value bs i = search rules

pub half_value : (bs : List ℕ) (i : ℕ) → slice_index bs i + 256 * slice_index bs (i + 1) ≡ value_at bs i 2
unfolding value_at
half_value bs i = search rules

pub word_value : (bs : List ℕ) (i : ℕ)
    → slice_index bs i + 256 * slice_index bs (i + 1) + 65536 * slice_index bs (i + 2)
    + 16777216 * slice_index bs (i + 3) ≡ value_at bs i 4
unfolding value_at
word_value bs i = search rules
