use Rattle.std.proofs.Common.{◌∙◌, arith}
use Rattle.rv_answers.proofs.Regions.{all_found}
use Rattle.rv_lab.specs.Runs.{changes}
use Rattle.rv_lab.proofs.steps.changes.Goals as goal

pub returns : goal.returns
unfolding changes
returns c = c.of.ensures ∙ all_found _ _ c.loop-number.number 32 c.loop-number.changed.items
    (omega (arith, c.loop-number-test.false)) (omega (arith, c.loop-number.auto.number-end)) c.loop-number.invariant
