-- To audit: public contracts cite this.
-- Numbers of 64 bits with one of their words replaced.
use Rattle.std.specs.Prelude.{ℕ, ◌+◌, ◌*◌, ◌/◌, ◌%◌, ◌^◌}

abbrev pub with_low : ℕ → ℕ → ℕ
with_low number word = number / 2 ^ 32 * 2 ^ 32 + word

abbrev pub with_high : ℕ → ℕ → ℕ
with_high number word = number % 2 ^ 32 + word * 2 ^ 32
