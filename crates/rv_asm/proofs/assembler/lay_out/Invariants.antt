use Rattle.std.proofs.Common.{◌≤◌, ◌+◌, length}
use Rattle.rv_base.specs.Lines.{lines}
use Rattle.rv_asm.specs.Support.Phases.{SoFar}
use Rattle.rv_asm.proofs.Reading.{LeftOf}
use Rattle.rv_asm.proofs.assembler.lay_out.Given as goal

abbrev pub invariant-loop-text : goal.invariant-loop-text
invariant-loop-text l =
    record {
      can_next : (goal.iterator-loop-text).can_next l.text-iterator;
      is_finite : (goal.iterator-loop-text).is_finite l.text-iterator;
      left : LeftOf (lines l.source) l.text-iterator l.number;
      so_far : SoFar (lines l.source) l.number l.fn.notes l.laid;
      counted : l.number + length l.text-iterator ≤ length l.source;
    }
