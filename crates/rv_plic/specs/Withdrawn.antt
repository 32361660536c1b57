-- Requests that are taken back after they were forwarded.
-- To audit: public contracts cite this.
use Rattle.std.specs.Prelude.{ℕ, if◌then◌else◌, List, length, map}
use Rattle.std.specs.List.{range_with_len}
use Rattle.std.specs.FinSet.{contains, difference}
use Rattle.rv_plic.specs.Gateways.{PlicState, edges_of, one_more}
use Rattle.rv_plic.specs.Sources.{Sources}

-- the counts with one edge more of each source of a set
unfoldable pub with_more_edges : List ℕ → Sources → List ℕ
with_more_edges edges set =
    map (λ s. if contains set s then one_more (edges_of edges s) else edges_of edges s)
    (range_with_len 24 (length edges))

-- the controller before the requests of these sources were forwarded: each edge that was taken is given back
abbrev pub withdrawn : PlicState → Sources → PlicState
withdrawn plic set =
    record plic {
      outstanding = difference plic.outstanding set;
      edges = with_more_edges plic.edges set;
      pending = difference plic.pending set;
    }
