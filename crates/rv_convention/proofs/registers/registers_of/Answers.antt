use Rattle.std.proofs.Common.{slice_index, rules, arith}
use Rattle.std.proofs.lemmas.List.Edits.{fill_by_more}
use Rattle.std.proofs.lemmas.List.FromFn.{fill_by_all}
use Rattle.rv_convention.proofs.registers.registers_of.Goals as goal

pub loop-number-preserved : goal.loop-number-preserved
loop-number-preserved c = (
  search rules,
  rw (c.reg.ensures.value, c.of.ensures) (fill_by_more (slice_index c.args.board.now.machine.registers) _ _ 0
      (omega (arith, c.loop-number.invariant.0, c.loop-number-test.true)) c.loop-number.invariant.1),
)

pub returns : goal.returns
returns c = fill_by_all (slice_index c.args.board.now.machine.registers) c.loop-number.values 32 0
    c.loop-number.invariant.0 (search rules)
