use Rattle.std.proofs.Common.{length}
use Rattle.rv_source.proofs.field.+in_roles.Given as goal

abbrev pub decreases-in_roles : goal.decreases-in_roles
decreases-in_roles l = length l.operands.now
