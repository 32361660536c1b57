use Rattle.std.proofs.Common.{rules}
use Rattle.rv_answers.proofs.Regions.{has_range, no_range}
use Rattle.rv_answers.proofs.states.range_of.Goals as goal

pub returns-then-end-first : goal.returns-then-end-first
returns-then-end-first c =
    no_range c.args.pmp.now c.args.number c.span-first.result.first c.span-first.result.«end» c.span-first.ensures
    (search rules)

pub returns : goal.returns
returns c =
    has_range c.args.pmp.now c.args.number c.span-first.result.first c.span-first.result.«end» c.span-first.ensures
    _ (search rules) (search rules)
