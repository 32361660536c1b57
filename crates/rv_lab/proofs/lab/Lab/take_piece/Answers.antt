use Rattle.std.proofs.Common.{ap, arith, rules}
use Rattle.rv_lab.specs.State.{LabState}
use Rattle.rv_lab.proofs.Runs.{piece_err, took_piece}
use Rattle.rv_lab.proofs.Told.{told_of}
use Rattle.rv_lab.proofs.lab.Lab.take_piece.Goals as goal

pub returns-in_err-end-clause-err : goal.returns-in_err-end-clause-err
returns-in_err-end-clause-err c = search (rules, arith, piece_err)

pub returns-clause-piece : goal.returns-clause-piece
returns-clause-piece c =
    took_piece c.args.plan.now _ _ c.args.self.now _ c.take_steps.new.self _ _ c.saturating_sub-done.result
    c.keep_plan.ensures c.in_ok-end.ensures.ok c.in_ok-end.ensures.goal c.take_steps.ensures.others
    (omega (arith, c.min-most.ensures, c.max.ensures, ap (λ (l : LabState). l.piece) c.self.view_is))
    (omega (arith, c.saturating_sub-done.ensures, c.steps-before.ensures, c.steps.ensures))
    (rw (c.rest.ensures, c.resumes_after.ensures) at c.keep_plan-2.ensures)

pub returns-clause-steps : goal.returns-clause-steps
returns-clause-steps c = search (rules, arith, told_of)
