use Rattle.std.proofs.Common.{◌≡◌, length}
use Rattle.std.specs.Prelude.{filter, nat_le}
use Rattle.std.specs.List.{last_or}
use Rattle.rv_frames.specs.declared.row.FrameRow.{FrameRow}
use Rattle.rv_backtrace.specs.Backtrace.{row_at}
use Rattle.rv_backtrace.proofs.rows.row_at.Given as goal

abbrev pub invariant-loop-left : goal.invariant-loop-left
invariant-loop-left l =
    last_or l.last (filter (λ (r : FrameRow). nat_le r.address l.address) l.left) ≡ row_at l.rows l.address

abbrev pub decreases-loop-left : goal.decreases-loop-left
decreases-loop-left l = length l.left
