use Rattle.std.proofs.Common.{◌∙◌, sym, subst}
use Rattle.rv_recording.specs.Support.Kept.{AreKept}
use Rattle.rv_recording.proofs.Keeping.{kept_inserted}
use Rattle.rv_recording.proofs.kept.KeptStates.keep_copy.Goals as goal

pub returns : goal.returns
returns c = λ first r h.
    kept_inserted c.insert-refused.result first c.args.session.now.timed c.self.inside.states.items _ _
    c.insert-refused.ensures.items r c.requires (c.in-Ok.ensures ∙ c.board.ensures.value) c.taken-steps.ensures.value
    (subst (AreKept first c.args.session.now.timed.inputs) (sym c.self.view_is) (c.make_place.ensures first _ h))
