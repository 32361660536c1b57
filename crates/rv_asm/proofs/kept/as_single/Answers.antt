use Rattle.std.proofs.Common.{refl}
use Rattle.rv_asm.proofs.Sums.{sum_of_one, sum_of_two}
use Rattle.rv_asm.proofs.kept.as_single.Goals.{in-empty, in-len1+in_ok-number-in-len1}
use Rattle.rv_asm.proofs.kept.as_single.Goals as goal

pub returns : goal.returns
returns c = elim c.if-more-lt1.branch [
  | in-empty w ↦ sum_of_one _ _ _ _ c.terms.ensures.value w.in-empty.len_below (rw (c.again.ensures, w.negative-is) refl)
  | in-len1+in_ok-number-in-len1 w ↦ sum_of_two _ _ _ _ _ _ c.terms.ensures.value w.in-len1.len_at_least
      w.in-len1.len_below w.second-item.is w.in_ok-number-in-len1.ensures (rw (c.again.ensures, w.negative-is) refl)
]
