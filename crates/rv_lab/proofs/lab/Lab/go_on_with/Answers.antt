use Rattle.rv_lab.proofs.Obeyed.{moved}
use Rattle.rv_lab.proofs.Runs.{told_call}
use Rattle.rv_lab.proofs.Told.{answered}
use Rattle.rv_lab.proofs.lab.Lab.go_on_with.Goals as goal

pub returns : goal.returns
returns c = moved _ c.args.self.now _ _
    (told_call _ _ c.args.self.now _ _ c.in_ok-end.ensures.piece c.tells_last.ensures c.tell_piece.ensures) c.next.ensures
    (answered _ _ _ c.args.self.now _ _ c.in_ok-end.ensures.end
    (rw c.new-steps.ensures.items at c.in_ok-end.ensures.steps) c.in_ok-call_answer.ensures.answers) tt
