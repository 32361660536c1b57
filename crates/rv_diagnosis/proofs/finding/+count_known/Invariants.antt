use Rattle.std.proofs.Common.{length}
use Rattle.rv_diagnosis.proofs.finding.+count_known.Given as goal

abbrev pub decreases-count_known : goal.decreases-count_known
decreases-count_known l = length l.tokens.now
