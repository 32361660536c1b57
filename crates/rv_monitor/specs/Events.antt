-- To audit: public contracts cite this.
-- The events of a board with timed inputs.
use Rattle.std.specs.Prelude.{ℕ, zero, suc, ◌+◌, ◌==◌, List, [], ◌∷◌, ◌++◌, filter, map}
use Rattle.rv_board.specs.declared.event.Event.{Event}
use Rattle.rv_board.specs.declared.event.Event.TheVariants as event
use Rattle.rv_timeline.specs.declared.input.Input.{Input}
use Rattle.rv_timeline.specs.declared.input.Input.TheVariants.{Rx, Line}
use Rattle.rv_timeline.specs.declared.input.TimedInput.{TimedInput}

-- the event that an input is
abbrev pub event_of : Input → Event
event_of (Rx byte) = event.Rx byte
event_of (Line source high) = event.Line source high

-- the inputs of one time, in their order
unfoldable pub inputs_at : List TimedInput → ℕ → List Event
inputs_at timed step = map (λ x. event_of x.input) (filter (λ x. x.step == step) timed)

-- steps from one on, each after the inputs of its time
unfoldable pub events_of : List TimedInput → ℕ → ℕ → List Event
events_of timed from zero = []
events_of timed from (suc count) =
    events_of timed from count ++ (inputs_at timed (from + count) ++ event.Step ∷ [])
