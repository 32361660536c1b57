use Rattle.std.proofs.Common.{◌∙◌, ◌-◌, arith}
use Rattle.rv_plic.specs.Sources.{sources}
use Rattle.rv_answers.specs.States.{source_of}
use Rattle.rv_answers.proofs.Sources.{all_items}
use Rattle.rv_answers.proofs.states.sources_of.Goals as goal

pub returns : goal.returns
unfolding sources
returns c = c.of.ensures ∙ all_items (source_of c.args.plic.now) 1 (c.loop-number.number - 1) 31 c.loop-number.states.items
    (omega (arith, c.loop-number-test.false)) (omega (arith, c.loop-number.auto.number-end)) c.loop-number.invariant
