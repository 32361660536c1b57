use Rattle.std.proofs.Common.{◌-◌}
use Rattle.rv_lab.proofs.lab.Lab.+push_traps.Given as goal

abbrev pub decreases-push_traps : goal.decreases-push_traps
decreases-push_traps l = 64 - l.index
