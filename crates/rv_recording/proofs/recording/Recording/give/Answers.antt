use Rattle.std.proofs.Common.{ℕ, subst, arith}
use Rattle.rv_recording.specs.Support.Kept.{AreWithin}
use Rattle.rv_recording.proofs.Stands.{gave}
use Rattle.rv_recording.proofs.recording.Recording.give.Goals as goal

pub invariant_of-self : goal.invariant_of-self
invariant_of-self c =
    gave c.self.inside.session c.give.new.self c.self.inside.pages c.self.inside.slots c.forget_after.new.self
    (c.self.invariant.0, c.forget_after.ensures.kept _ _ c.self.invariant.1) c.give.result c.args.input (omega arith)
    (subst (λ (n : ℕ). AreWithin n c.forget_after.new.self) c.taken-steps.ensures.value c.forget_after.ensures.within) c.give.ensures.ok c.give.ensures.err
