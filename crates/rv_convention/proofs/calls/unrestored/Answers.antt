use Rattle.std.proofs.Common.{◌∙◌, arith}
use Rattle.rv_answers.proofs.Regions.{all_found}
use Rattle.rv_convention.specs.Convention.{unrestored}
use Rattle.rv_convention.proofs.calls.unrestored.Goals as goal

pub returns : goal.returns
unfolding unrestored
returns c = c.of-2.ensures ∙ all_found _ _ c.loop-number.number 32 c.loop-number.missing.items
    (omega (arith, c.loop-number-test.false)) (omega (arith, c.loop-number.auto.number-end)) c.loop-number.invariant
