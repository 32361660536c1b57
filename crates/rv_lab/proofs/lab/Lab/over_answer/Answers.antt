use Rattle.std.proofs.Common.{rules}
use Rattle.rv_lab.proofs.Told.{over_said}
use Rattle.rv_lab.proofs.lab.Lab.over_answer.Goals as goal

pub returns : goal.returns
returns c = search (rules, over_said)
