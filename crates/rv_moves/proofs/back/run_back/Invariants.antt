use Rattle.std.proofs.Common.{◌<◌}
use Rattle.rv_moves.proofs.Looking.{Backed}
use Rattle.rv_moves.proofs.back.run_back.Given as goal

abbrev pub invariant-loop-high : goal.invariant-loop-high
invariant-loop-high l = Backed l.watches l.fn.recording l.recording l.high × (0 < l.width)

abbrev pub decreases-loop-high : goal.decreases-loop-high
decreases-loop-high l = l.high
