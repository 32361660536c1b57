use Rattle.std.proofs.Common.{◌≡◌, length}
use Rattle.rv_frames.proofs.walk.follow.Given as goal

abbrev pub invariant-loop : goal.invariant-loop
invariant-loop l = length l.walk.reached.items ≡ l.count
