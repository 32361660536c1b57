use Rattle.std.proofs.Common.{length}
use Rattle.rv_source.proofs.terms.+read_further.Given as goal

abbrev pub decreases-read_further : goal.decreases-read_further
decreases-read_further l = length l.tokens.now
