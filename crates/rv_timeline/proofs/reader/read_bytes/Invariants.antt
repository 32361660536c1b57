use Rattle.std.proofs.Common.{◌≡◌, length}
use Rattle.rv_base.specs.Words.{words}
use Rattle.rv_timeline.specs.Timed.{all_of, byte_input, received}
use Rattle.rv_timeline.specs.Support.Reading.{with_inputs}
use Rattle.rv_timeline.proofs.reader.read_bytes.Given as goal

abbrev pub invariant-loop-word : goal.invariant-loop-word
invariant-loop-word l =
    with_inputs l.out.items l.step (all_of byte_input (words l.rest))
    ≡ with_inputs l.initial.out.items l.step (received (words l.text))

abbrev pub decreases-loop-word : goal.decreases-loop-word
decreases-loop-word l = length l.rest
