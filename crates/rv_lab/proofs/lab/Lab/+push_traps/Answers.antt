use Rattle.std.proofs.Common.{arith, rules}
use Rattle.rv_lab.proofs.Values.{runs_other}
use Rattle.rv_lab.proofs.lab.Lab.+push_traps.Goals as goal

pub returns : goal.returns
returns t c = search (rules, arith, runs_other)
