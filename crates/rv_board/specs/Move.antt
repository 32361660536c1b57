-- The board after events.
-- To audit: public contracts cite this.
use Rattle.std.specs.Prelude.{◌≡◌, ℕ, Bool, true, false, ◌&&◌, if◌then◌else◌, ◌+◌, ◌%◌, ◌^◌, List, [], ◌∷◌, ◌++◌, fold, take, slice_get, is_none, is_some}
use Rattle.std.specs.Option.{option_map_or}
use Rattle.circular_buffer.specs.Buffer.{keep_last}
use Rattle.rv_plic.specs.Gateways.{with_line}
use Rattle.rv_mmio.specs.Serial.{received}
use Rattle.rv_hart.specs.State.{Machine}
use Rattle.rv_hart.specs.Step.{step}
use Rattle.rv_hart.specs.Step as hart
use Rattle.rv_hart.specs.declared.trap.Outcome.{Outcome}
use Rattle.rv_hart.specs.declared.trap.Outcome.TheVariants.{Trapped}
use Rattle.rv_board.specs.BoardState.{BoardState, on_bus}
use Rattle.rv_board.specs.declared.event.Event.{Event}
use Rattle.rv_board.specs.declared.event.Event.TheVariants.{Step, Line, Rx}
use Rattle.rv_board.specs.declared.event.TrapRecord.{TrapRecord}

-- the last 64 traps after a step, by its outcome
abbrev pub with_trap : List TrapRecord → Outcome → List TrapRecord
with_trap ts (Trapped cause epc tval) =
    keep_last 64 (ts ++ record { cause = cause; epc = epc; tval = tval } ∷ [])
with_trap ts outcome = ts

-- the board after a step, by the machine after it and its outcome
abbrev pub after_step : BoardState → Machine × Outcome → BoardState
after_step b (m, o) = record { machine = m; traps = with_trap b.traps o; steps = (b.steps + 1) % 2 ^ 64 }

-- the board after an event that happens to it
abbrev pub with_event : BoardState → Event → BoardState
with_event b Step = after_step b (step b.machine)
with_event b (Line source high) = on_bus b (λ bus. record bus { plic = with_line bus.plic source high })
with_event b (Rx byte) = on_bus b (λ bus. record bus { serial = received bus.serial byte })

-- the board after an event: a halted board stays as it is
unfoldable pub moved : BoardState → Event → BoardState
moved b e = if is_some b.machine.bus.halt then b else with_event b e

-- whether an event is a step that retires a store into the memory or to the transmit register
unfoldable pub writes : BoardState → Event → Bool
writes b Step = is_none b.machine.bus.halt && hart.writes b.machine
writes b e = false

-- the board after events, one after another
abbrev pub run : BoardState → List Event → BoardState
run b es = fold moved b es

-- a run was refused: the new board is the old one after the first `done` events, and the next event is a step
-- that writes
pub record IsStopped (old new : BoardState) (events : List Event) (done : ℕ) : Type 0 where
  pub state : new ≡ run old (take done events)
  pub next : option_map_or (writes new) (slice_get events done) false ≡ true
