use Rattle.std.proofs.Common.{◌≡◌, drop}
use Rattle.std.specs.Prelude.{map}
use Rattle.std.specs.Option.{ok_or}
use Rattle.rv_tokens.specs.declared.fault.LineFault.TheVariants.{BadOperands}
use Rattle.rv_source.specs.Support.Partial.{first_fit, row_by}
use Rattle.rv_source.specs.Table.{meaning}
use Rattle.rv_source.proofs.table.meaning.Given as goal

abbrev pub invariant-loop-way : goal.invariant-loop-way
invariant-loop-way l =
    ok_or (first_fit l.operands (map (row_by l.operation) (drop l.way-index l.way-items))) BadOperands
    ≡ meaning l.word l.operands
