use Rattle.std.proofs.Common.{◌≡◌, ◌&&◌, nat_lt, slice_index}
use Rattle.std.specs.Option.{option_map_or}
use Rattle.std.specs.FinSet as set
use Rattle.rv_plic.specs.Support.Best.{IsBestBelow}
use Rattle.rv_plic.proofs.plic.highest.Given as goal

-- the best of the sources so far, and its priority
abbrev pub invariant-loop-number : goal.invariant-loop-number
invariant-loop-number l = record {
  found : IsBestBelow l.number (λ s. set.contains l.waiting s && nat_lt 0 (slice_index l.priorities s))
      (slice_index l.priorities) l.best;
  priority : l.priority ≡ option_map_or (slice_index l.priorities) l.best 0;
}
