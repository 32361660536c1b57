use Rattle.rv_recording.proofs.Stands.{called}
use Rattle.rv_recording.proofs.recording.Recording.step.Goals as goal

pub invariant_of-self : goal.invariant_of-self
invariant_of-self c = called _ _ _ _ _ c.self.invariant _ _ c.step.result c.step.ensures.took c.step.ensures.err
