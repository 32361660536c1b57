-- Lists of zeros.
use Rattle.std.proofs.Common.{◌≡◌, ℕ, zero, suc, ◌-◌, length, drop, slice_index, refl}
use Rattle.std.proofs.lemmas.List.{length-replicate, drop-replicate}
use Rattle.rv_ram.specs.Bytes.{zeros}

pub length_zeros : (n : ℕ) → length (zeros n) ≡ n
unfolding zeros
length_zeros n = length-replicate n 0

pub drop_zeros : (k n : ℕ) → drop k (zeros n) ≡ zeros (n - k)
unfolding zeros
drop_zeros k n = drop-replicate k n 0

pub zero_of : (n i : ℕ) → slice_index (zeros n) i ≡ 0
unfolding zeros
zero_of zero i = refl
zero_of (suc n) zero = refl
zero_of (suc n) (suc i) = zero_of n i
