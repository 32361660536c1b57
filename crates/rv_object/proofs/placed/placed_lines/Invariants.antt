use Rattle.std.proofs.Common.{◌≡◌, ◌++◌, ◌-◌, ◌≤◌, suc}
use Rattle.rv_asm.specs.Seen.{seen}
use Rattle.rv_object.specs.Placed.{placed_from}
use Rattle.rv_object.proofs.placed.placed_lines.Given as goal

abbrev pub invariant-loop-line : goal.invariant-loop-line
invariant-loop-line l = record {
  within : l.line ≤ l.count;
  lines : l.out.items ++ placed_from (seen l.fn.listing) (suc l.line) (l.count - l.line)
      ≡ placed_from (seen l.fn.listing) 1 l.count;
}

abbrev pub decreases-loop-line : goal.decreases-loop-line
decreases-loop-line l = l.count - l.line
