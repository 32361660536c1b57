use Rattle.std.proofs.Common.{◌≤◌, ◌+◌, length}
use Rattle.rv_base.specs.Lines.{lines}
use Rattle.rv_timeline.proofs.Whole.{SoFar}
use Rattle.rv_timeline.proofs.timeline.Timeline.read.Given as goal

abbrev pub invariant-loop-line : goal.invariant-loop-line
invariant-loop-line l =
    record {
      can_next : (goal.iterator-loop-line).can_next l.line-iterator;
      is_finite : (goal.iterator-loop-line).is_finite l.line-iterator;
      so_far : SoFar (lines l.text) l.line-iterator l.number l.inputs.items;
      counted : l.number + length l.line-iterator ≤ length l.text;
    }
