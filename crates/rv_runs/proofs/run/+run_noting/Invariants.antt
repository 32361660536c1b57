use Rattle.std.proofs.Common.{length}
use Rattle.rv_runs.proofs.run.+run_noting.Given as goal

abbrev pub decreases-run_noting : goal.decreases-run_noting
decreases-run_noting l = length l.watches.now
