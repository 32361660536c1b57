use Rattle.rv_why.proofs.writes.+last_within.Given as goal

abbrev pub decreases-last_within : goal.decreases-last_within
decreases-last_within l = l.steps
