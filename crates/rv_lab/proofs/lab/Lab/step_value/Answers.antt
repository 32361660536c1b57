use Rattle.std.proofs.Common.{refl}
use Rattle.rv_lab.proofs.lab.Lab.step_value.Goals as goal

pub returns : goal.returns
returns c =
    rw (c.steps.ensures, c.trap_in.ensures, c.in_ok-changed.ensures, c.registers_of.ensures, c.board.ensures.value) refl
