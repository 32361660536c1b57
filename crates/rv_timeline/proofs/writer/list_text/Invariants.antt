use Rattle.std.proofs.Common.{◌≡◌, true, take}
use Rattle.std.specs.List.{list_all}
use Rattle.rv_timeline.specs.Support.Reading.{is_input}
use Rattle.rv_timeline.specs.Text.{list_text}
use Rattle.rv_timeline.proofs.writer.list_text.Given as goal

abbrev pub invariant-loop-timed : goal.invariant-loop-timed
invariant-loop-timed l = record {
  text : l.text.items ≡ list_text (take l.timed-index l.inputs);
  ranges : list_all (λ x. is_input x.input) (take l.timed-index l.inputs) ≡ true;
}
