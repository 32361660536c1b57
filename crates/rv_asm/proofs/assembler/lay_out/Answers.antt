use Rattle.std.proofs.Common.{rules, length, ap, arith}
use Rattle.rv_base.specs.Lines.{lines}
use Rattle.rv_asm.specs.AllFaults.{kept}
use Rattle.rv_asm.specs.Assembly.{all_parsed}
use Rattle.rv_asm.proofs.Reading.{all_left, left_more, none_left}
use Rattle.rv_asm.proofs.Examining.{up_to_before, laid_begun, laid_more}
use Rattle.rv_asm.proofs.assembler.lay_out.Goals as goal

pub loop-text-init : goal.loop-text-init
loop-text-init c =
    record {
      can_next = tt;
      is_finite = tt;
      left = search (rules, all_left);
      so_far = laid_begun (lines c.args.source.now) _ (search rules) (search rules) c.requires
          (search rules) (search rules);
      counted = search rules;
    }

pub take-requires-clause-up_to : goal.take-requires-clause-up_to
take-requires-clause-up_to c none = rw (c.loop-text.invariant.so_far.laid none).known_is
    (up_to_before (kept (all_parsed (lines c.args.source.now)) c.loop-text.number) c.loop-text.number)

pub loop-text-preserved : goal.loop-text-preserved
loop-text-preserved c =
    let so = c.loop-text.invariant.left in
    let cut = c.in-Some.ensures.steps in
    record {
      can_next = tt;
      is_finite = tt;
      left = left_more _ _ _ so _ _ cut;
      so_far = laid_more _ _ _ so _ _ cut _ _ _ c.loop-text.invariant.so_far c.in_ok-take.ensures.unread
          c.in_ok-take.ensures.takes;
      counted = omega (arith, c.loop-text.invariant.counted, ap length cut);
    }

pub returns : goal.returns
returns c = rw (none_left _ _ _ c.loop-text.invariant.left c.in-None.ensures.steps.0) c.loop-text.invariant.so_far
