use Rattle.std.proofs.Common.{arith, rules}
use Rattle.rv_runs.proofs.Parts.{on_err}
use Rattle.rv_lab.proofs.Runs.{first_on_way, traced_all, traced_further}
use Rattle.rv_lab.proofs.Told.{more_steps, wholly}
use Rattle.rv_lab.proofs.lab.Lab.+trace_steps.Goals as goal

pub returns-clause-traced : goal.returns-clause-traced
returns-clause-traced t c = search (rules, arith, traced_all)

pub returns-clause-steps : goal.returns-clause-steps
returns-clause-steps t c = search (rules, arith, more_steps)

pub returns-in_err-step-clause-err : goal.returns-in_err-step-clause-err
returns-in_err-step-clause-err t c = search (rules, arith, first_on_way, on_err)

pub returns-in_err-push_step-clause-err : goal.returns-in_err-push_step-clause-err
returns-in_err-push_step-clause-err t c = search (rules, arith, first_on_way, wholly, on_err)

pub returns-clause-err : goal.returns-clause-err
returns-clause-err t c = search (rules, arith, traced_further)
