use Rattle.std.proofs.Common.{length}
use Rattle.rv_operands.proofs.input.+read_words.Given as goal

abbrev pub decreases-read_words : goal.decreases-read_words
decreases-read_words l = length l.text.now
