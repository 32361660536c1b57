use Rattle.rv_recording.proofs.Stands.{called}
use Rattle.rv_recording.proofs.recording.Recording.go.Goals as goal

pub invariant_of-self : goal.invariant_of-self
invariant_of-self c = called _ _ _ _ _ c.self.invariant _ _ c.go.result c.go.ensures.took c.go.ensures.err
