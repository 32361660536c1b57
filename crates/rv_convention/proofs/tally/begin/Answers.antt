use Rattle.rv_asm.specs.Seen.{seen}
use Rattle.rv_convention.proofs.Tallies.{changed_here}
use Rattle.rv_convention.proofs.tally.begin.Goals as goal

pub returns-clause-begun : goal.returns-clause-begun
returns-clause-begun c =
    changed_here (seen c.args.listing) c.args.address _ c.args.lines.now.items c.in-Some.line c.index-old.result.now
    c.in-Some.ensures.found c.in-Some.ensures.only c.requires.each c.index-old.ensures
