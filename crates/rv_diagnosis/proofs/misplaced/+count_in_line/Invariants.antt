use Rattle.std.proofs.Common.{length}
use Rattle.rv_diagnosis.proofs.misplaced.+count_in_line.Given as goal

abbrev pub decreases-count_in_line : goal.decreases-count_in_line
decreases-count_in_line l = length l.tokens.now
