use Rattle.std.proofs.Common.{ap}
use Rattle.rv_handle.proofs.Looking.{no_more, one_more}
use Rattle.rv_handle.proofs.looks.append_looks.Goals as goal

pub loop-line-preserved : goal.loop-line-preserved
loop-line-preserved c =
    record {
      can_next = tt;
      is_finite = tt;
      whole = ap (λ a. a.is_cut) c.in_ok-append_look.ensures;
      so_far =
          one_more _ _ _ _ _ _ _ c.in-Some.ensures.steps (ap (λ a. a.bytes) c.in_ok-append_look.ensures)
          c.loop-line.invariant.so_far;
    }

pub returns : goal.returns
returns c = no_more _ _ _ _ c.in-None.ensures.steps.0 c.loop-line.invariant.so_far
