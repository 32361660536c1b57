use Rattle.std.proofs.Common.{◌+◌, ◌-◌, ◌*◌, ◌≤◌, length}
use Rattle.rv_elf.specs.Size.{frames_size}
use Rattle.rv_frames.proofs.functions.functions_in.Given as goal

abbrev pub invariant-loop-start : goal.invariant-loop-start
invariant-loop-start l = record {
  within : l.start ≤ length l.code.places.now;
  size : frames_size l.out.items ≤ 40 + 192 * l.start;
}

abbrev pub decreases-loop-start : goal.decreases-loop-start
decreases-loop-start l = length l.code.places.now - l.start
