use Rattle.rv_lab.proofs.lab.Lab.+trace_steps.Given as goal

abbrev pub decreases-trace_steps : goal.decreases-trace_steps
decreases-trace_steps l = l.count
