use Rattle.rv_plic.specs.Support.Changes.{count_after}
use Rattle.rv_plic.proofs.Counts.{IsChangedBelow}
use Rattle.rv_plic.proofs.edges.change_counts.Given as goal

-- only the counts so far are changed
abbrev pub invariant-loop-index : goal.invariant-loop-index
invariant-loop-index l = IsChangedBelow (count_after l.change) l.index l.sources l.fn.counts l.counts
