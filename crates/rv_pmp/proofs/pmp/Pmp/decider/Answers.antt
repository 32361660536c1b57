use Rattle.std.proofs.Common.{◌∙◌, sym, arith}
use Rattle.rv_pmp.proofs.Decision.{first_match}
use Rattle.rv_pmp.proofs.pmp.Pmp.decider.Goals as goal

pub returns-then-matches : goal.returns-then-matches
returns-then-matches c =
    first_match c.args.self.now c.args.addr c.loop-number.number (omega (arith, c.loop-number-test.true))
    c.loop-number.invariant (sym c.matches.ensures ∙ c.if-matches.true)
