-- To audit: public contracts cite this.
-- The state of the interrupt controller, and its interrupt gateways (PLIC Specification 1.0, "Interrupt
-- Gateways"). A gateway turns the line of its source into requests, and forwards no other request until the
-- one before is completed. Sources 1 to 23 ask as long as their line is high. Sources 24 to 31 are
-- triggered by edges: each rise of their line is pending until it is forwarded (a gateway may count the
-- edges that come before the request of an earlier one is completed).
use Rattle.std.specs.Prelude.{ℕ, Bool, ◌+◌, ◌-◌, ◌&&◌, not, nat_lt, nat_le, if◌then◌else◌, List, length, map, slice_index, slice_set, replicate, filter}
use Rattle.std.specs.List.{range_with_len}
use Rattle.std.specs.FinSet.{empty, insert, remove, union, difference, contains, from_list}
use Rattle.rv_plic.specs.Sources.{sources, Sources}

-- the sources whose line is high; the number of pending edges of each source from 24 on; the sources whose
-- request is outstanding; the pending and the enabled sources; the priority of each source by its number;
-- the threshold
pub record PlicState : Type 0 where
  pub high : Sources
  pub edges : List ℕ
  pub outstanding : Sources
  pub pending : Sources
  pub enabled : Sources
  pub priorities : List ℕ
  pub threshold : ℕ

-- the controller at reset
abbrev pub plic_at_reset : PlicState
plic_at_reset = record {
  high = empty;
  edges = replicate 8 0;
  outstanding = empty;
  pending = empty;
  enabled = empty;
  priorities = replicate 32 0;
  threshold = 0;
}

-- ---- edges
-- whether a source is triggered by edges
abbrev pub is_by_edge : ℕ → Bool
is_by_edge source = nat_le 24 source

-- the number of pending edges of a source: 0 for one that is triggered by its level
abbrev pub edges_of : List ℕ → ℕ → ℕ
edges_of edges source = if is_by_edge source then slice_index edges (source - 24) else 0

-- a count with one edge more, unless it is full
abbrev pub one_more : ℕ → ℕ
one_more count = if nat_lt count 4294967295 then count + 1 else count

-- the counts with one edge more of a source, and with one less of each source of a set
abbrev pub with_edge : List ℕ → ℕ → List ℕ
with_edge edges source = slice_set edges (source - 24) (one_more (edges_of edges source))

abbrev pub with_fewer_edges : List ℕ → Sources → List ℕ
with_fewer_edges edges set =
    map (λ s. edges_of edges s - (if contains set s then 1 else 0)) (range_with_len 24 (length edges))

-- ---- lines and requests
-- the controller after the line of a source is set to a level. It rises where it was low and becomes high
abbrev pub with_line : PlicState → ℕ → Bool → PlicState
with_line p source level =
    let rises = is_by_edge source && level && not (contains p.high source) in record p {
      high = if level then insert p.high source else remove p.high source;
      edges = if rises then with_edge p.edges source else p.edges;
    }

-- the sources that ask for a request: those triggered by edges while an edge is pending, any other while
-- its line is high
unfoldable pub asking_sources : Sources → List ℕ → Sources
asking_sources high edges =
    from_list (filter (λ s. if is_by_edge s then nat_lt 0 (edges_of edges s) else contains high s) sources)

-- the sources with a request to forward: those that ask, and have no request that is outstanding or pending
abbrev pub requests : PlicState → Sources
requests plic = difference (difference (asking_sources plic.high plic.edges) plic.outstanding) plic.pending

-- the controller after each gateway with a request has forwarded it, which takes one of its pending edges
abbrev pub forwarded : PlicState → PlicState
forwarded p =
    let new = requests p in record p {
      edges = with_fewer_edges p.edges new;
      outstanding = union p.outstanding new;
      pending = union p.pending new;
    }
