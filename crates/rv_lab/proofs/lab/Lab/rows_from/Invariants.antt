use Rattle.std.proofs.Common.{◌≡◌, map}
use Rattle.std.specs.List.{range_with_len}
use Rattle.rv_lab.specs.Lines.{row_of}
use Rattle.rv_lab.proofs.lab.Lab.rows_from.Given as goal

abbrev pub invariant-loop-passed : goal.invariant-loop-passed
invariant-loop-passed l = l.rows.items ≡ map (row_of l.self) (range_with_len l.first l.passed)
