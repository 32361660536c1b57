use Rattle.std.proofs.Common.{◌≡◌, drop}
use Rattle.rv_base.specs.Tables.{lookup, rows}
use Rattle.rv_base.proofs.tables.look_up.Given as goal

abbrev pub invariant-loop-row : goal.invariant-loop-row
invariant-loop-row g l = lookup l.name (rows (drop l.row-index l.table)) ≡ lookup l.name (rows l.table)
