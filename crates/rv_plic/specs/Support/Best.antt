-- Not to audit: private contracts alone cite this.
-- The best source, as a property.
use Rattle.std.specs.Prelude.{◌≡◌, ℕ, Bool, true, false, ◌<◌, ◌≤◌, Option, Some, None, ◌&&◌}
use Rattle.std.specs.FinSet.{contains}
use Rattle.rv_plic.specs.Gateways.{PlicState}
use Rattle.rv_plic.specs.Plic.{asks_above, priority_of}

-- `source` is `other`, or goes before it: its priority is higher, or the same with a lower number
pub record IsFirst (priority : ℕ → ℕ) (source other : ℕ) : Type 0 where
  pub higher : priority other ≤ priority source
  pub lower : priority other ≡ priority source → source ≤ other

-- the best of the sources with numbers below `end` that pass a test, or none where none passes
abbrev pub IsBestBelow : ℕ → (ℕ → Bool) → (ℕ → ℕ) → Option ℕ → Type 0
IsBestBelow end passes priority None = (other : ℕ) → 0 < other → other < end → passes other ≡ false
IsBestBelow end passes priority (Some source) =
    (0 < source) × (source < end) × (passes source ≡ true)
    × ((other : ℕ) → 0 < other → other < end → passes other ≡ true → IsFirst priority source other)

-- whether a source is pending and enabled
abbrev pub is_waiting : PlicState → ℕ → Bool
is_waiting plic source = contains plic.pending source && contains plic.enabled source

-- the best of the candidates, or none where there is no candidate
abbrev pub IsBest : PlicState → Option ℕ → Type 0
IsBest plic found = IsBestBelow 32 (asks_above plic 0) (priority_of plic) found
