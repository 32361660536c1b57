use Rattle.std.proofs.Common.{rules}
use Rattle.rv_pmp.proofs.Registers.{stored_by}
use Rattle.rv_pmp.proofs.pmp.Pmp.write_csr.Goals as goal

pub returns-clause-stored : goal.returns-clause-stored
returns-clause-stored c =
    stored_by c.args.self.now c.args.addr c.args.value (search rules) c.in_ok-register.register _ (search rules)
    (search rules)
