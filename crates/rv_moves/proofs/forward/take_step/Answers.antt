use Rattle.std.proofs.Common.{rules}
use Rattle.rv_monitor.proofs.Reached.{in_time}
use Rattle.rv_moves.proofs.Advancing.{one_out, opened_inside}
use Rattle.rv_moves.proofs.forward.take_step.Goals as goal

pub returns-clause-state : goal.returns-clause-state
returns-clause-state c = one_out _ _ _ _ (in_time _ _ c.session.ensures.reached) c.requires.may
    c.in_ok-_end.ensures.ok c.run_out.ensures.others

pub returns-clause-calls : goal.returns-clause-calls
returns-clause-calls c = opened_inside _ _ _ _ (first_of (search rules, cc)) c.run_out.ensures.calls
    (one_out _ _ _ _ (in_time _ _ c.session.ensures.reached) c.requires.may c.in_ok-_end.ensures.ok
    c.run_out.ensures.others)
