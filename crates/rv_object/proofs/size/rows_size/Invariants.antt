use Rattle.std.proofs.Common.{◌≡◌, ◌+◌, ◌-◌, ◌<◌, ◌≤◌, suc}
use Rattle.rv_asm.specs.Seen.{seen}
use Rattle.rv_elf.specs.Size.{rows_size}
use Rattle.rv_object.specs.Placed.{placed_from}
use Rattle.rv_object.proofs.size.rows_size.Given as goal

abbrev pub invariant-loop-line : goal.invariant-loop-line
invariant-loop-line l = record {
  within : l.line ≤ l.count;
  fits : l.rows.size < 4294967296;
  last : l.rows.last ≤ suc l.line;
  sum : l.rows.size + rows_size l.rows.last (placed_from (seen l.fn.listing) (suc l.line) (l.count - l.line))
      ≡ rows_size 1 (placed_from (seen l.fn.listing) 1 l.count);
}

abbrev pub decreases-loop-line : goal.decreases-loop-line
decreases-loop-line l = l.count - l.line
