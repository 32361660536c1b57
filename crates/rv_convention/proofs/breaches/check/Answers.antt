use Rattle.std.proofs.Common.{rules}
use Rattle.rv_convention.proofs.Following.{told}
use Rattle.rv_convention.proofs.breaches.check.Goals as goal

pub returns : goal.returns
returns c = search (rules, told)
