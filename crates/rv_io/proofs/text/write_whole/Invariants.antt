use Rattle.std.proofs.Common.{◌≡◌, ◌≤◌, ◌-◌, false, length, take}
use Rattle.std.specs.Io.KnownBytes.{Appends}
use Rattle.rv_io.proofs.text.write_whole.Given as goal

abbrev pub invariant-loop-done : goal.invariant-loop-done
invariant-loop-done g l = record {
  took : Appends (g.W.TextOut.taken l.initial.out) (g.W.TextOut.taken l.out) (take l.done l.bytes);
  within : l.done ≤ length l.bytes;
  sound : g.W.TextOut.has_failed l.out ≡ false;
}

abbrev pub decreases-loop-done : goal.decreases-loop-done
decreases-loop-done g l = length l.bytes - l.done
