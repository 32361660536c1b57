use Rattle.std.proofs.Common.{rules, arith}
use Rattle.rv_answers.specs.States.{regions}
use Rattle.rv_answers.proofs.Regions.{all_found}
use Rattle.rv_answers.proofs.states.regions_of.Goals as goal

pub returns : goal.returns
unfolding regions
returns c = search (rules, arith, all_found)
