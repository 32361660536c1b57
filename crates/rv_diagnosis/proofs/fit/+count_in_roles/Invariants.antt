use Rattle.std.proofs.Common.{length}
use Rattle.rv_diagnosis.proofs.fit.+count_in_roles.Given as goal

abbrev pub decreases-count_in_roles : goal.decreases-count_in_roles
decreases-count_in_roles l = length l.roles.now
