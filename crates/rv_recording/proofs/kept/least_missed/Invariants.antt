use Rattle.std.proofs.Common.{◌<◌, length}
use Rattle.rv_recording.proofs.kept.least_missed.Given as goal

abbrev pub invariant-loop-place : goal.invariant-loop-place
invariant-loop-place l = l.found < length l.states
