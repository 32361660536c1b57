use Rattle.std.proofs.Common.{sym, subst}
use Rattle.rv_recording.specs.Support.Kept.{AreKept}
use Rattle.rv_recording.proofs.Keeping.{kept_less}
use Rattle.rv_recording.proofs.kept.KeptStates.forget_after.Goals as goal

pub loop-self-preserved : goal.loop-self-preserved
loop-self-preserved c = λ first inputs h. subst (AreKept first inputs) (sym c.remove.ensures.items)
    (kept_less first inputs c.loop-self.self-inside.states.items 0 (c.loop-self.invariant first inputs h))
