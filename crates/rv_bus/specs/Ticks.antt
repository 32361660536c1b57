-- A tick of time on the bus, and what is kept to undo it.
-- To audit: public contracts cite this.
use Rattle.std.specs.Prelude.{ℕ}
use Rattle.rv_plic.specs.Gateways.{requests}
use Rattle.rv_plic.specs.Plic.{PlicState}
use Rattle.rv_plic.specs.Plic as plic
use Rattle.rv_plic.specs.Sources.{Sources}
use Rattle.rv_plic.specs.Withdrawn.{withdrawn}
use Rattle.rv_mmio.specs.Timer.{TimerState, timer_ticked}
use Rattle.rv_bus.specs.State.{BusState}

-- the timer and the interrupt controller, which a tick changes
pub record MarkState : Type 0 where
  pub timer : TimerState
  pub plic : PlicState

-- the part of the bus that a tick changes: the time, and the sources whose requests it forwards
pub record TickState : Type 0 where
  pub time : ℕ
  pub requests : Sources

-- the part of the bus that the next tick changes
abbrev pub next_tick : BusState → TickState
next_tick b = record { time = b.timer.time; requests = requests b.plic }

-- the timer and the interrupt controller before a tick, by the part that the tick changed
abbrev pub mark_before : BusState → TickState → MarkState
mark_before b tick =
    record { timer = record b.timer { time = tick.time }; plic = withdrawn b.plic tick.requests }

-- the bus after a tick
abbrev pub ticked : BusState → BusState
ticked b = record b { timer = timer_ticked b.timer; plic = plic.forwarded b.plic }
