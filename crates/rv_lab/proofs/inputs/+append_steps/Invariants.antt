use Rattle.rv_lab.proofs.inputs.+append_steps.Given as goal

abbrev pub decreases-append_steps : goal.decreases-append_steps
decreases-append_steps l = l.lines
