use Rattle.std.proofs.Common.{length}
use Rattle.rv_asm.proofs.placement.+write_sums.Given as goal

abbrev pub decreases-write_sums : goal.decreases-write_sums
decreases-write_sums l = length l.sums.now
