use Rattle.std.proofs.Common.{◌+◌, ◌≤◌, length}
use Rattle.rv_frames.proofs.instructions.append_number.Given as goal

abbrev pub invariant-loop-digit : goal.invariant-loop-digit
invariant-loop-digit l = length l.out.items ≤ length l.fn.out.items + l.digit
