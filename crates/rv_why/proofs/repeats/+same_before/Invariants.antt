use Rattle.rv_why.proofs.repeats.+same_before.Given as goal

abbrev pub decreases-same_before : goal.decreases-same_before
decreases-same_before l = l.index
