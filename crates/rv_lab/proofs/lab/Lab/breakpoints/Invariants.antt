use Rattle.std.proofs.Common.{◌≡◌, ◌<◌, ◌-◌, ◌^◌}
use Rattle.rv_lab.proofs.Values.{breaks_below}
use Rattle.rv_lab.proofs.lab.Lab.breakpoints.Given as goal

-- the breakpoints so far
abbrev pub invariant-loop-address : goal.invariant-loop-address
invariant-loop-address l = record { below : l.from < 2 ^ 32; found : l.places.items ≡ breaks_below l.self l.from }

abbrev pub decreases-loop-address : goal.decreases-loop-address
decreases-loop-address l = 2 ^ 32 - l.from
