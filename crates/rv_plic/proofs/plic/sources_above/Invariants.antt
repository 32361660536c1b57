use Rattle.rv_plic.specs.Support.AboveThreshold.{is_above}
use Rattle.rv_plic.proofs.Those.{HasThoseBelow}
use Rattle.rv_plic.proofs.plic.sources_above.Given as goal

-- the set has the sources above the threshold of the numbers so far
abbrev pub invariant-loop-number : goal.invariant-loop-number
invariant-loop-number l = HasThoseBelow l.number (is_above l.priorities l.threshold) l.above
