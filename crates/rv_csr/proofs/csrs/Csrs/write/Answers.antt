-- User mode may access no register of the table.
use Rattle.std.proofs.Common.{sym}
use Rattle.rv_csr.proofs.Levels.{no_register, no_store, may_read-from_write}
use Rattle.rv_csr.proofs.csrs.Csrs.write.Goals as goal

pub returns-in-Some-clause-user : goal.returns-in-Some-clause-user
returns-in-Some-clause-user c h = no_register _ c.args.addr c.args.mode c.at.result c.in-Some.register
    (may_read-from_write c.args.addr c.args.mode (sym c.if-not-may_write.ensures)) h c.at.ensures c.in-Some.is

pub returns-in-None-clause-user : goal.returns-in-None-clause-user
returns-in-None-clause-user c h =
    no_store _ c.args.addr c.args.value _ c.args.mode c.write_csr.result (sym c.if-not-may_write.ensures) h
    c.write_csr.ensures.stored
