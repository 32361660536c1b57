use Rattle.std.proofs.Common.{◌≡◌, ◌+◌, length}
use Rattle.rv_convention.specs.Support.Tallies.{before_next}
use Rattle.rv_convention.proofs.rows.before_next.Given as goal

abbrev pub invariant-loop-left : goal.invariant-loop-left
invariant-loop-left l = l.sum + before_next l.left ≡ before_next l.lines

abbrev pub decreases-loop-left : goal.decreases-loop-left
decreases-loop-left l = length l.left
