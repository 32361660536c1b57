use Rattle.std.proofs.Common.{◌≡◌, ◌++◌, drop, map}
use Rattle.rv_object.specs.Placed.{name_and_value}
use Rattle.rv_object.proofs.labels.append_labels.Given as goal

abbrev pub invariant-loop-label : goal.invariant-loop-label
invariant-loop-label l = map name_and_value l.symbols.items ++ drop l.label-index l.labels
    ≡ map name_and_value l.fn.symbols.items ++ l.labels
