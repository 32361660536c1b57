use Rattle.rv_lab.proofs.Obeyed.{ran_steps}
use Rattle.rv_lab.proofs.lab.Lab.run_steps.Goals as goal

pub returns : goal.returns
returns c = ran_steps _ c.args.self.now _ _ _ c.keep_count.ensures (rw c.planned.ensures at c.start.ensures)
