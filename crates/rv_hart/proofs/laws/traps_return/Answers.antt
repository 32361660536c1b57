use Rattle.rv_hart.proofs.Interrupts.{traps_return}
use Rattle.rv_hart.proofs.laws.traps_return.Goals as goal

pub returns : goal.returns
returns c = traps_return
