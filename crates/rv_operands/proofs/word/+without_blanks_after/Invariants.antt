use Rattle.std.proofs.Common.{length}
use Rattle.rv_operands.proofs.word.+without_blanks_after.Given as goal

abbrev pub decreases-without_blanks_after : goal.decreases-without_blanks_after
decreases-without_blanks_after l = length l.text.now
