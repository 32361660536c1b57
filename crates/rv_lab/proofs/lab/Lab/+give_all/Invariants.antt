use Rattle.std.proofs.Common.{length}
use Rattle.rv_lab.proofs.lab.Lab.+give_all.Given as goal

abbrev pub decreases-give_all : goal.decreases-give_all
decreases-give_all l = length l.inputs.now
