use Rattle.std.proofs.Common.{arith, rules}
use Rattle.rv_monitor.proofs.Reached.{in_time}
use Rattle.rv_lab.proofs.Runs.{refused_err, stops_are}
use Rattle.rv_lab.proofs.lab.Lab.run_board.Goals as goal

pub returns-clause-err : goal.returns-clause-err
returns-clause-err c = search (rules, arith, refused_err, stops_are, in_time)
