use Rattle.std.proofs.Common.{length}
use Rattle.rv_answers.proofs.command.+has.Given as goal

abbrev pub decreases-has : goal.decreases-has
decreases-has l = length l.text.now
