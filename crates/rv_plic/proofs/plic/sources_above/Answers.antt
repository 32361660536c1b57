use Rattle.std.proofs.Common.{rules, arith}
use Rattle.rv_plic.specs.Support.AboveThreshold.{is_above, sources_above}
use Rattle.rv_plic.proofs.Those.{has_all, with_next, without_next}
use Rattle.rv_plic.proofs.plic.sources_above.Goals as goal

pub loop-number-preserved : goal.loop-number-preserved
loop-number-preserved c =
    let p = is_above c.args.priorities.now c.args.threshold in search (rules, with_next p, without_next p)

pub returns : goal.returns
unfolding sources_above
returns c = has_all _ c.loop-number.number _ (omega arith) c.loop-number.invariant
