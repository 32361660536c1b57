use Rattle.std.proofs.Common.{◌-◌}
use Rattle.rv_moves.specs.Back.{taken}
use Rattle.rv_moves.specs.Support.Looking.{Looked}
use Rattle.rv_moves.proofs.back.look_from.Given as goal

abbrev pub invariant-loop-recording : goal.invariant-loop-recording
invariant-loop-recording l = Looked l.watches l.to l.fn.recording l.from l.recording l.found

abbrev pub decreases-loop-recording : goal.decreases-loop-recording
decreases-loop-recording l = l.to - taken l.recording
