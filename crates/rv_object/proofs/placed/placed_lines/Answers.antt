use Rattle.std.proofs.Common.{◌∙◌, ℕ, ap, arith}
use Rattle.rv_asm.specs.Seen.{seen}
use Rattle.rv_object.specs.Placed.{placed_from}
use Rattle.rv_object.proofs.Rising.{rises_all, all_done}
use Rattle.rv_object.proofs.placed.placed_lines.Goals as goal

pub returns-clause-value : goal.returns-clause-value
returns-clause-value c =
    all_done (seen c.args.listing) c.loop-line.out.items _ c.loop-line.line c.in-Some.count (omega arith)
    c.loop-line.invariant.lines ∙ ap (λ (n : ℕ). placed_from (seen c.args.listing) 1 n) c.in-Some.ensures.1

pub returns-clause-rises : goal.returns-clause-rises
returns-clause-rises c = rises_all (seen c.args.listing) c.loop-line.out.items c.in-Some.count
    (all_done (seen c.args.listing) c.loop-line.out.items _ c.loop-line.line c.in-Some.count (omega arith)
    c.loop-line.invariant.lines)
