-- User mode may access no register of the table.
use Rattle.std.proofs.Common.{sym}
use Rattle.rv_csr.proofs.Levels.{no_register}
use Rattle.rv_csr.proofs.csrs.Csrs.read.Goals as goal

pub returns-in-Some-clause-user : goal.returns-in-Some-clause-user
returns-in-Some-clause-user c h = no_register _ c.args.addr c.args.mode c.at.result c.in-Some.register
    (sym c.if-not-may_read.ensures) h c.at.ensures c.in-Some.is
