use Rattle.std.proofs.Common.{◌≤◌, ◌+◌, length}
use Rattle.rv_base.specs.Lines.{lines}
use Rattle.rv_asm.specs.AllFaults.{faults_of}
use Rattle.rv_diagnosis.proofs.Merging.{Merged, ordered}
use Rattle.rv_diagnosis.proofs.faults.diagnose.Given as goal

abbrev pub invariant-loop-text : goal.invariant-loop-text
invariant-loop-text l =
    record {
      can_next : (goal.iterator-loop-text).can_next l.text-iterator;
      is_finite : (goal.iterator-loop-text).is_finite l.text-iterator;
      merged : Merged (ordered (lines l.source)).fault (lines l.source) l.text-iterator l.line
          (faults_of (lines l.source)) l.out.items;
      counted : l.line + length l.text-iterator ≤ length l.source;
    }
