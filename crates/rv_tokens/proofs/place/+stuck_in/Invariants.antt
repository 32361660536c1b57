use Rattle.std.proofs.Common.{length}
use Rattle.rv_tokens.proofs.place.+stuck_in.Given as goal

abbrev pub decreases-stuck_in : goal.decreases-stuck_in
decreases-stuck_in l = length l.rest.now
