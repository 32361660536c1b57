use Rattle.std.proofs.Common.{length}
use Rattle.rv_lab.proofs.watch.+push_changes.Given as goal

abbrev pub decreases-push_changes : goal.decreases-push_changes
decreases-push_changes l = length l.watches.now
