use Rattle.std.proofs.Common.{rules}
use Rattle.rv_monitor.proofs.Reached.{in_time}
use Rattle.rv_runs.proofs.Parts.{on_err}
use Rattle.rv_lab.proofs.Runs.{traced_others, traced_run, traced_stops}
use Rattle.rv_lab.proofs.lab.Lab.take_traced.Goals as goal

pub returns-in_err-trace_steps-clause-err : goal.returns-in_err-trace_steps-clause-err
returns-in_err-trace_steps-clause-err c = on_err _ _ (traced_stops _ c.args.self.now c.trace_steps.new.self
    (in_time _ _ c.board-board.ensures.run) c.in_err-trace_steps.ensures.err c.trace_steps.ensures.others)

pub returns-clause-ok : goal.returns-clause-ok
returns-clause-ok c = search (rules, traced_run, in_time)

pub returns-clause-others : goal.returns-clause-others
returns-clause-others c =
    traced_others c.args.most c.args.self.now c.trace_steps.new.self (in_time _ _ c.board-board.ensures.run)
    c.in_ok-trace_steps.ensures.traced
