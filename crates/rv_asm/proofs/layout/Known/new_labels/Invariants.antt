use Rattle.std.proofs.Common.{◌≡◌, drop}
use Rattle.std.specs.Prelude.{◌||◌}
use Rattle.rv_asm.specs.Support.Steps.{labelled, new_among, relabels}
use Rattle.rv_asm.proofs.Examining.{IsUpTo}
use Rattle.rv_asm.proofs.layout.Known.new_labels.Given as goal

abbrev pub invariant-loop-label : goal.invariant-loop-label
invariant-loop-label l =
    record {
      known : labelled l.line l.self (new_among l.self (drop l.label-index l.labels))
          ≡ labelled l.line l.fn.self (new_among l.fn.self l.labels);
      twice : (l.left_out || relabels l.self (drop l.label-index l.labels)) ≡ relabels l.fn.self l.labels;
      up_to : IsUpTo l.line l.self;
    }
