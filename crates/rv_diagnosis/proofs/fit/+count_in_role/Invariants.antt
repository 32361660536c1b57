use Rattle.std.proofs.Common.{length}
use Rattle.rv_diagnosis.proofs.fit.+count_in_role.Given as goal

abbrev pub decreases-count_in_role : goal.decreases-count_in_role
decreases-count_in_role l = length l.operands.now
