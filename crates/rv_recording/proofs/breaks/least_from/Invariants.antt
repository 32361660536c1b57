use Rattle.std.proofs.Common.{◌≡◌, None, fold, length}
use Rattle.rv_recording.specs.Support.Nearer.{nearer}
use Rattle.rv_recording.proofs.breaks.least_from.Given as goal

abbrev pub invariant-loop-left : goal.invariant-loop-left
invariant-loop-left l = fold (nearer l.from) l.least l.left ≡ fold (nearer l.from) None l.addresses

abbrev pub decreases-loop-left : goal.decreases-loop-left
decreases-loop-left l = length l.left
