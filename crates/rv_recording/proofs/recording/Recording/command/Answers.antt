use Rattle.rv_recording.proofs.Stands.{commanded}
use Rattle.rv_recording.proofs.recording.Recording.command.Goals as goal

pub invariant_of-self : goal.invariant_of-self
invariant_of-self c =
    commanded _ _ _ _ _ c.self.invariant _ c.command.result c.command.ensures.ok c.command.ensures.err
