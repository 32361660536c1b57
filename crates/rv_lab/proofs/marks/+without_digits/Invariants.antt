use Rattle.std.proofs.Common.{length}
use Rattle.rv_lab.proofs.marks.+without_digits.Given as goal

abbrev pub decreases-without_digits : goal.decreases-without_digits
decreases-without_digits l = length l.name.now
