use Rattle.std.proofs.Common.{length}
use Rattle.rv_operands.proofs.word.+to_blank.Given as goal

abbrev pub decreases-to_blank : goal.decreases-to_blank
decreases-to_blank l = length l.text.now
