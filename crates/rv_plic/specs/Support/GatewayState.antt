-- Not to audit: private contracts alone cite this.
-- The part of the controller that its gateways keep.
use Rattle.std.specs.Prelude.{ℕ, Bool, ◌-◌, ◌&&◌, not, nat_lt, if◌then◌else◌, List, length, map, slice_set, replicate}
use Rattle.std.specs.List.{range_with_len}
use Rattle.std.specs.FinSet.{empty, insert, remove, union, difference, contains}
use Rattle.rv_plic.specs.Sources.{Sources}
use Rattle.rv_plic.specs.Gateways.{PlicState, is_by_edge, edges_of, one_more, asking_sources}
use Rattle.rv_plic.specs.Withdrawn.{with_more_edges}

-- the number of pending edges of each source from 24 on
abbrev pub Edges : Type 0
Edges = List ℕ

-- the counts after one edge of each source of a set is taken
unfoldable pub taken : Sources → Edges → Edges
taken sources edges =
    map (λ s. edges_of edges s - (if contains sources s then 1 else 0)) (range_with_len 24 (length edges))

-- no edge is pending
abbrev pub none_waits : Edges
none_waits = replicate 8 0

-- the sources whose line is high, those whose request is outstanding, and the pending edges
pub record GatewayState : Type 0 where
  pub high : Sources
  pub outstanding : Sources
  pub edges : Edges

-- the gateways of a controller
abbrev pub gateways_of : PlicState → GatewayState
gateways_of plic = record { high = plic.high; outstanding = plic.outstanding; edges = plic.edges }

-- the gateways at reset
abbrev pub all_low : GatewayState
all_low = record { high = empty; outstanding = empty; edges = none_waits }

-- the gateways after the line of a source is set to a level
abbrev pub gateways_with_line : GatewayState → ℕ → Bool → GatewayState
gateways_with_line gateways source level =
    record gateways {
      high = if level then insert gateways.high source else remove gateways.high source;
      edges = if is_by_edge source && level && not (contains gateways.high source)
          then slice_set gateways.edges (source - 24) (one_more (edges_of gateways.edges source))
          else gateways.edges;
    }

-- whether a source asks for a request
unfoldable pub asks : Sources → Edges → ℕ → Bool
asks high edges source = if is_by_edge source then nat_lt 0 (edges_of edges source) else contains high source

-- the sources with a request to forward, where those of a set are pending
abbrev pub gateway_requests : GatewayState → Sources → Sources
gateway_requests gateways pending =
    difference (difference (asking_sources gateways.high gateways.edges) gateways.outstanding) pending

-- the gateways after they forwarded their requests
abbrev pub after_requests : GatewayState → Sources → GatewayState
after_requests gateways pending =
    record gateways {
      outstanding = union gateways.outstanding (gateway_requests gateways pending);
      edges = taken (gateway_requests gateways pending) gateways.edges;
    }

-- the gateways before they forwarded the requests of these sources
abbrev pub withdrawn_gateways : GatewayState → Sources → GatewayState
withdrawn_gateways gateways sources =
    record gateways {
      outstanding = difference gateways.outstanding sources;
      edges = with_more_edges gateways.edges sources;
    }

-- the gateways after the request of a source is completed
abbrev pub after_completion : GatewayState → ℕ → GatewayState
after_completion gateways source = record gateways { outstanding = remove gateways.outstanding source }
