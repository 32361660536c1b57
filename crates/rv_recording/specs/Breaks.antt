-- To audit: public contracts cite this.
-- Breakpoints in the order of their addresses.
use Rattle.std.specs.Prelude.{◌≡◌, ℕ, ◌<◌, ◌≤◌, true, false, Option, Some, None}
use Rattle.std.specs.FinSet as set
use Rattle.rv_monitor.specs.State.{Addresses}

-- the first address of a set that is at `from` or above it, or none
abbrev pub IsNext : Addresses → ℕ → Option ℕ → Type 0
IsNext addresses from None = (a : ℕ) → from ≤ a → set.contains addresses a ≡ false
IsNext addresses from (Some next) = (from ≤ next) × (set.contains addresses next ≡ true)
    × ((a : ℕ) → from ≤ a → a < next → set.contains addresses a ≡ false)
