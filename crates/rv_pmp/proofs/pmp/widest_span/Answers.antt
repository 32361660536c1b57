use Rattle.std.proofs.Common.{sym, ◌∙◌, arith}
use Rattle.rv_pmp.proofs.Widest.{beside_free, none_free}
use Rattle.rv_pmp.proofs.pmp.widest_span.Goals as goal

pub loop-active-preserved : goal.loop-active-preserved
loop-active-preserved c = rw c.part_beside-free.ensures
    (beside_free c.args.actives.now c.args.access c.args.addr c.loop-active.free c.loop-active.active-index _
    (omega arith) c.loop-active.invariant (sym c.has.ensures.value ∙ c.if-has.false) c.requires.forward)

pub returns : goal.returns
returns c = none_free _ _ _ _ c.loop-active.active-index (omega arith) c.loop-active.invariant
