use Rattle.std.proofs.Common.{length}
use Rattle.rv_moves.proofs.watch.+first_seeing.Given as goal

abbrev pub decreases-first_seeing : goal.decreases-first_seeing
decreases-first_seeing l = length l.watches.now
