use Rattle.std.proofs.lemmas.Result.{IfOk-weaker}
use Rattle.rv_asm.specs.Listing.{emitted}
use Rattle.rv_asm.proofs.kept.keep.Goals as goal

pub returns-in-Data : goal.returns-in-Data
unfolding emitted
returns-in-Data c = rw (c.in-Data.is, ← c.as_slice.ensures) (IfOk-weaker c.waiting_for-in-Data.result _ _
    (λ k h ds line. h ds line c.args.here) c.waiting_for-in-Data.ensures)
