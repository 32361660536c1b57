use Rattle.std.proofs.Common.{rules, arith, true, false}
use Rattle.rv_moves.proofs.Looking.{met_one, ran_on}
use Rattle.rv_moves.proofs.back.look.Goals as goal

pub returns-in-Some : goal.returns-in-Some
returns-in-Some c =
    met_one c.args.watches.now c.args.to c.session-session.ensures.reached c.requires.back c.requires.below
    {new = c.take_step.new.self} {w = c.in-Some.watch} c.in_ok-_outcome._outcome c.in_ok-_outcome.ensures.step
    c.take_step.ensures.others (first_of (search rules, cc)) c.steps-here.result (first_of (search rules, cc))

pub returns-then-is_break : goal.returns-then-is_break
returns-then-is_break c =
    ran_on c.args.watches.now c.args.to c.session-session.ensures.reached c.requires.back c.requires.below
    (omega (arith, c.steps-here.ensures)) c.in_ok-_end.ensures.ok c.run_to_stop.ensures.others
    (first_of (search rules, cc)) true (first_of (search rules, cc)) c.steps-here.result (first_of (search rules, cc))

pub returns : goal.returns
returns c =
    ran_on c.args.watches.now c.args.to c.session-session.ensures.reached c.requires.back c.requires.below
    (omega (arith, c.steps-here.ensures)) c.in_ok-_end.ensures.ok c.run_to_stop.ensures.others
    (first_of (search rules, cc)) false (first_of (search rules, cc)) c.steps-here.result (first_of (search rules, cc))
