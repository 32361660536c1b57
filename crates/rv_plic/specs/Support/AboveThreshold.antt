-- Not to audit: private contracts alone cite this.
-- The sources that pass a test, and those whose priority is above the threshold, which the controller keeps beside
-- its registers.
use Rattle.std.specs.Prelude.{ℕ, Bool, nat_lt, List, slice_index, filter}
use Rattle.std.specs.FinSet.{from_list}
use Rattle.rv_plic.specs.Sources.{sources, Sources}

-- the sources that pass a test
abbrev pub those : (ℕ → Bool) → Sources
those passes = from_list (filter passes sources)

-- whether a source has a priority above the threshold
abbrev pub is_above : List ℕ → ℕ → ℕ → Bool
is_above priorities threshold source = nat_lt threshold (slice_index priorities source)

-- the sources with a priority above it
unfoldable pub sources_above : List ℕ → ℕ → Sources
sources_above priorities threshold = those (is_above priorities threshold)
