use Rattle.std.proofs.Common.{length}
use Rattle.rv_recording.proofs.kept.+latest_of.Given as goal

abbrev pub decreases-latest_of : goal.decreases-latest_of
decreases-latest_of l = length l.states.now
