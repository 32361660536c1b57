use Rattle.std.proofs.Common.{◌≡◌, ◌++◌, false}
use Rattle.rv_base.specs.Lines.{lines}
use Rattle.rv_handle.specs.Pages.{looks}
use Rattle.rv_handle.proofs.looks.append_looks.Given as goal

abbrev pub invariant-loop-line : goal.invariant-loop-line
invariant-loop-line l =
    record {
      can_next : (goal.iterator-loop-line).can_next l.line-iterator;
      is_finite : (goal.iterator-loop-line).is_finite l.line-iterator;
      whole : l.answer.is_cut ≡ false;
      so_far : l.answer.bytes ++ looks l.lab l.line-iterator ≡ l.fn.answer.bytes ++ looks l.lab (lines l.text);
    }
