-- The number of a register, as it is printed (this project's own: docs/MONITOR.md).
-- Not to audit: private contracts alone cite this.
use Rattle.std.specs.Prelude.{ℕ, ◌+◌, ◌/◌, ◌%◌, List, [], ◌∷◌}

-- the two decimal digits of a number below 100
unfoldable pub two_decimals : ℕ → List ℕ
two_decimals n = (48 + n / 10) ∷ (48 + n % 10) ∷ []
