use Rattle.std.proofs.Common.{length}
use Rattle.rv_operands.proofs.word.+from_blank.Given as goal

abbrev pub decreases-from_blank : goal.decreases-from_blank
decreases-from_blank l = length l.text.now
