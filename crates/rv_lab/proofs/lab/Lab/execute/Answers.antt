use Rattle.std.proofs.Common.{◌∙◌, sym, ap}
use Rattle.rv_lab.specs.declared.order.Order.TheVariants as orders
use Rattle.rv_lab.proofs.Obeyed.{as_known, ran}
use Rattle.rv_lab.proofs.lab.Lab.execute.Goals as goal

pub returns-in-Give : goal.returns-in-Give
returns-in-Give c =
    as_known _ _ _ _ _ (c.in-Give.is ∙ ap orders.Give (sym c.items.ensures)) c.give_inputs.ensures

pub returns-in-Monitor : goal.returns-in-Monitor
returns-in-Monitor c =
    as_known _ _ _ _ _ (c.in-Monitor.is ∙ ap orders.Monitor (sym c.items-in-Monitor.ensures)) c.monitor_command.ensures

pub returns-in-Run : goal.returns-in-Run
returns-in-Run c = as_known _ _ _ _ _ c.in-Run.is (ran _ c.args.self.now _ _ c.start.ensures)
