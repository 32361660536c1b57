use Rattle.std.proofs.Common.{arith, rules}
use Rattle.rv_ram.proofs.Blocks.{biases_next}
use Rattle.rv_ram.proofs.biases.Biases.new.Goals as goal

pub loop-page-preserved : goal.loop-page-preserved
loop-page-preserved c = (
  search rules,
  biases_next c.loop-page.items c.loop-page.page _
      (omega (arith, c.loop-page.invariant.0, c.requires, c.loop-page-test.true)) c.loop-page.invariant.1 (omega arith),
)
