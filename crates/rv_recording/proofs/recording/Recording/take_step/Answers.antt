use Rattle.rv_recording.proofs.Stands.{one_step}
use Rattle.rv_recording.proofs.recording.Recording.take_step.Goals as goal

pub invariant_of-self : goal.invariant_of-self
invariant_of-self c = one_step _ _ _ _ _ c.self.invariant c.take_step.result c.take_step.ensures.step
