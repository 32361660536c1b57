use Rattle.std.proofs.Common.{◌≡◌, true, rules, arith}
use Rattle.rv_convention.proofs.Following.{all_followed, more}
use Rattle.rv_convention.proofs.follow.follow_run.Goals as goal

pub loop-done-preserved : goal.loop-done-preserved
loop-done-preserved g c =
    let went : c.in_ok-follow.field-0 ≡ true = first_of (search rules, cc) in
    more _ _ c.args.first c.args.run.now c.args.most _ _ _ c.loop-done.invariant _ _ _ went
    (omega (arith, c.loop-done-test.true)) c.in_ok-follow.ensures

pub returns : goal.returns
returns g c = all_followed _ _ c.args.first c.args.run.now c.args.most _ _ _ c.loop-done.invariant
    (omega (arith, c.loop-done-test.false))
