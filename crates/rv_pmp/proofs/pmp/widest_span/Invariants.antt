use Rattle.std.proofs.Common.{drop}
use Rattle.rv_pmp.proofs.Widest.{Leads}
use Rattle.rv_pmp.proofs.pmp.widest_span.Given as goal

abbrev pub invariant-loop-active : goal.invariant-loop-active
invariant-loop-active l = Leads l.actives (drop l.active-index l.actives) l.access l.addr l.free
