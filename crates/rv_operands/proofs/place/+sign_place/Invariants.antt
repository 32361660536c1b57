use Rattle.std.proofs.Common.{length}
use Rattle.rv_operands.proofs.place.+sign_place.Given as goal

abbrev pub decreases-sign_place : goal.decreases-sign_place
decreases-sign_place l = length l.word.now
