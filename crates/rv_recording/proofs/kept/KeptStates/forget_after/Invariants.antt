use Rattle.std.proofs.Common.{List}
use Rattle.std.specs.Vec.{vec_len}
use Rattle.rv_board.specs.Support.State.{BoardState}
use Rattle.rv_timeline.specs.declared.input.TimedInput.{TimedInput}
use Rattle.rv_recording.specs.Support.Kept.{AreKept}
use Rattle.rv_recording.proofs.kept.KeptStates.forget_after.Given as goal

abbrev pub invariant-loop-self : goal.invariant-loop-self
invariant-loop-self l = (first : BoardState) (inputs : List TimedInput) → AreKept first inputs l.fn.self
    → AreKept first inputs l.self-inside.states.items

abbrev pub decreases-loop-self : goal.decreases-loop-self
decreases-loop-self l = vec_len l.self-inside.states
