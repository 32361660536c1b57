use Rattle.std.proofs.Common.{◌∙◌, ap, sym}
use Rattle.rv_timeline.specs.Timed.{never_falls}
use Rattle.rv_lab.specs.State.{LabState}
use Rattle.rv_lab.proofs.Runs.{step_refused}
use Rattle.rv_runs.proofs.Parts.{on_err}
use Rattle.rv_lab.proofs.Told.{took_one, took_wholly}
use Rattle.rv_lab.proofs.lab.Lab.take_step.Goals as goal

pub returns-in_err-outcome-clause-err : goal.returns-in_err-outcome-clause-err
returns-in_err-outcome-clause-err c = on_err _ _ (step_refused _ c.args.self.now.recording c.take_step.new.self
    (ap (λ (l : LabState). l.recording) c.self.view_is)
    (ap never_falls (sym c.inputs-inputs.ensures.value) ∙ c.inputs-inputs.ensures.rising)
    _ c.in_err-outcome.ensures.step c.take_step.ensures.others)

pub returns-in_err-step_value-clause-err : goal.returns-in_err-step_value-clause-err
returns-in_err-step_value-clause-err c = on_err _ _ (took_wholly _ c.args.self.now.recording c.take_step.new.self _ _
    (ap (λ (l : LabState). l.recording) c.self.view_is) c.in-Some.is c.in_ok-outcome.ensures.step
    c.take_step.ensures.others)

pub returns-clause-value : goal.returns-clause-value
returns-clause-value c =
    took_one c.args.self.now _ c.take_step.new.self _ _ c.self.view_is c.in-Some.is c.in_ok-outcome.ensures.step
    c.take_step.ensures.others _ _ _ (rw (c.pc.ensures.value, c.board-2.ensures.value) at c.place_of-place.ensures)
    (rw c.board.ensures.value at c.registers_of-before.ensures) c.in_ok-step_value.ensures
