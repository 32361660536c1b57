use Rattle.std.proofs.Common.{◌∙◌, ◌<◌, length, rules}
use Rattle.std.proofs.lemmas.Bool.{and_from}
use Rattle.std.proofs.lemmas.List.Folds.{list_all_more}
use Rattle.rv_timeline.specs.Support.Reading.{is_input}
use Rattle.rv_timeline.specs.Text.{list_text}
use Rattle.rv_timeline.proofs.Texts.{line_more}
use Rattle.rv_timeline.proofs.writer.list_text.Goals as goal

pub loop-timed-init : goal.loop-timed-init
unfolding list_text
loop-timed-init c = search rules

pub loop-timed-preserved : goal.loop-timed-preserved
loop-timed-preserved c =
    let within : c.loop-timed.timed-index < length c.args.inputs.now = search rules in
    record {
      text = line_more c.args.inputs.now c.loop-timed.timed-index c.timed-item.result
          c.loop-timed.text.items c.append_line.new.text.items within c.timed-item.is
          c.loop-timed.invariant.text c.in_ok-append_line.ensures.text;
      ranges = list_all_more (λ x. is_input x.input) c.args.inputs.now c.loop-timed.timed-index
          c.timed-item.result within
          ∙ and_from _ _ c.loop-timed.invariant.ranges (rw (← c.timed-item.is) c.in_ok-append_line.ensures.range);
    }
