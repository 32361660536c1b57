use Rattle.std.proofs.Common.{length}
use Rattle.rv_source.proofs.operand.+read_more.Given as goal

abbrev pub decreases-read_more : goal.decreases-read_more
decreases-read_more l = length l.tokens.now
