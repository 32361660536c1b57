use Rattle.std.proofs.Common.{length}
use Rattle.rv_object.proofs.labels.functions_from.Given as goal

abbrev pub decreases-loop-rest : goal.decreases-loop-rest
decreases-loop-rest l = length l.rest
