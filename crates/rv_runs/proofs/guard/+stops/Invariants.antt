use Rattle.std.proofs.Common.{length}
use Rattle.rv_runs.proofs.guard.+stops.Given as goal

abbrev pub decreases-stops : goal.decreases-stops
decreases-stops l = length l.guards.now
