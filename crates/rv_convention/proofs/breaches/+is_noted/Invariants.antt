use Rattle.std.proofs.Common.{length}
use Rattle.rv_convention.proofs.breaches.+is_noted.Given as goal

abbrev pub decreases-is_noted : goal.decreases-is_noted
decreases-is_noted l = length l.breaches.now
