use Rattle.std.proofs.Common.{◌≡◌, ◌∙◌, ◌∷◌, length, ap, arith}
use Rattle.rv_base.specs.Lines.{lines}
use Rattle.rv_timeline.proofs.Whole.{begun, read_more, refused}
use Rattle.rv_timeline.proofs.timeline.Timeline.read.Goals as goal

pub loop-line-init : goal.loop-line-init
loop-line-init c =
    let all : c.into_iter-line-iterator.result ≡ lines c.args.text.now =
    c.into_iter-line-iterator.ensures.into_iter_gives ∙ c.cut_lines-line-items.ensures.cut in
    record {
      can_next = tt;
      is_finite = tt;
      so_far = rw (all, c.new-inputs.ensures.items) (begun (lines c.args.text.now));
      counted =
          omega (
            arith,
            ap length c.into_iter-line-iterator.ensures.into_iter_gives,
            c.cut_lines-line-items.ensures.within,
          );
    }

pub loop-line-preserved : goal.loop-line-preserved
loop-line-preserved c =
    let cut : c.loop-line.line-iterator ≡ c.in-Some.line.now ∷ c.next.new.self = c.in-Some.ensures.steps in
    record {
      can_next = tt;
      is_finite = tt;
      so_far =
          read_more _ _ _ _ c.loop-line.invariant.so_far c.in-Some.line.now c.next.new.self cut
          c.read_line.new.out.items (rw c.in-Ok-true.field-0-test at c.in-Ok-true.ensures);
      counted = omega (arith, c.loop-line.invariant.counted, ap length cut);
    }

pub returns-in-Ok-false-clause-list : goal.returns-in-Ok-false-clause-list
returns-in-Ok-false-clause-list c =
    refused _ _ _ _ c.loop-line.invariant.so_far c.in-Some.line.now c.next.new.self c.in-Some.ensures.steps
    (rw c.in-Ok-false.field-0-test at c.in-Ok-false.ensures) _ (omega arith)
