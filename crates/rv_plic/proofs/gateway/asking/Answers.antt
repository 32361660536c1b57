use Rattle.std.proofs.Common.{rules, arith}
use Rattle.rv_plic.specs.Gateways.{asking_sources}
use Rattle.rv_plic.specs.Support.GatewayState.{asks}
use Rattle.rv_plic.proofs.Those.{has_all, with_next, without_next}
use Rattle.rv_plic.proofs.gateway.asking.Goals as goal

pub loop-number-preserved : goal.loop-number-preserved
loop-number-preserved c =
    let p = asks c.args.high c.args.edges.now in search (rules, with_next p, without_next p)

pub returns : goal.returns
unfolding asking_sources asks
returns c = has_all _ c.loop-number.number _ (omega arith) c.loop-number.invariant
