use Rattle.std.proofs.Common.{length}
use Rattle.rv_diagnosis.proofs.misplaced.+count_fitting.Given as goal

abbrev pub decreases-count_fitting : goal.decreases-count_fitting
decreases-count_fitting l = length l.tokens.now
