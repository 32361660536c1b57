use Rattle.rv_asm.specs.Seen.{seen}
use Rattle.rv_convention.proofs.Tallies.{changed_here}
use Rattle.rv_convention.proofs.tally.count.Goals as goal

pub returns-clause-counted : goal.returns-clause-counted
returns-clause-counted c =
    changed_here (seen c.args.listing) c.args.address _ c.args.lines.now.items c.in-Some.line c.index-old.result.now
    c.in-Some.ensures.found c.in-Some.ensures.only c.requires.each c.index-old.ensures
