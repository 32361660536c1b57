use Rattle.std.proofs.Common.{◌∙◌, sym}
use Rattle.rv_lab.proofs.Obeyed.{by_look, by_run, monitor_came}
use Rattle.rv_lab.proofs.lab.Lab.monitor_command.Goals as goal

pub returns-in-Some : goal.returns-in-Some
returns-in-Some c = monitor_came c.args.operands.now c.args.self.now _ _
    (by_run _ _ _ c.args.self.now _ _ (sym c.in-Some.is ∙ c.monitored_run.ensures) c.start.ensures)

pub returns-in-None : goal.returns-in-None
returns-in-None c =
    let e = c.monitor_look.ensures in monitor_came c.args.operands.now c.args.self.now _ _ (by_look _ _ c.args.self.now _ _
    (sym c.monitored_run.ensures ∙ c.in-None.is) e.others e.leaves e.next e.answers e.err)
