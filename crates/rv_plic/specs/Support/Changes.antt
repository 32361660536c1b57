-- Not to audit: private contracts alone cite this.
-- Changes of counts of edges.
use Rattle.std.specs.Prelude.{ℕ, ◌+◌, ◌-◌, if◌then◌else◌, [], ◌∷◌}
use Rattle.std.specs.FinSet.{contains}
use Rattle.rv_plic.specs.declared.edges.Change.{Change}
use Rattle.rv_plic.specs.declared.edges.Change.TheVariants.{OneMore, OneLess}
use Rattle.rv_plic.specs.Gateways.{one_more}
use Rattle.rv_plic.specs.Support.GatewayState.{Edges}
use Rattle.rv_plic.specs.Sources.{Sources}

-- the count with one edge less, unless it is 0
abbrev pub one_less : ℕ → ℕ
one_less count = count - 1

-- the counts, where those of the sources of a set are changed and the first count is that of `source`
unfoldable pub changed : (ℕ → ℕ) → Sources → ℕ → Edges → Edges
changed change sources source [] = []
changed change sources source (count ∷ counts) =
    (if contains sources source then change count else count) ∷ changed change sources (source + 1) counts

-- the count after a change
abbrev pub count_after : Change → ℕ → ℕ
count_after OneMore = one_more
count_after OneLess = one_less
