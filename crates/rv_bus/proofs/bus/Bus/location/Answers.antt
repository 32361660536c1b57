use Rattle.std.proofs.Common.{rules}
use Rattle.rv_bus.proofs.Rows.{is_for}
use Rattle.rv_bus.proofs.bus.Bus.location.Goals as goal

pub returns-clause-is : goal.returns-clause-is
returns-clause-is g c = is_for _ _ _ _ (search rules)
