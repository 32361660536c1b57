use Rattle.std.proofs.Common.{length}
use Rattle.rv_operands.proofs.input.+read_text.Given as goal

abbrev pub decreases-read_text : goal.decreases-read_text
decreases-read_text l = length l.text.now
