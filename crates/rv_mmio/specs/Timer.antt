-- To audit: public contracts cite this.
-- The machine timer: mtime and mtimecmp of the Privileged Architecture 20211203, section 3.2.1, and the
-- software interrupt bit msip of section 3.1.9, each read and written by words.
use Rattle.std.specs.Prelude.{ℕ, Bool, false, ◌+◌, ◌-◌, ◌/◌, ◌%◌, ◌^◌, ◌==◌, nat_le, if◌then◌else◌, List, [], ◌∷◌, find, Option}
use Rattle.std.specs.Option.{option_map}
use Rattle.rv_base.specs.Halves.{with_low, with_high}
use Rattle.rv_base.specs.Registers.{Register, register}
use Rattle.rv_mmio.specs.declared.timer.TimerReg.{TimerReg}
use Rattle.rv_mmio.specs.declared.timer.TimerReg.TheVariants.{Msip, MtimecmpLow, MtimecmpHigh, MtimeLow, MtimeHigh}

-- the level of the software interrupt line, the time, and the time to compare with
pub record TimerState : Type 0 where
  pub software : Bool
  pub time : ℕ
  pub compare : ℕ

-- the timer at reset: the largest time to compare with keeps its line low
abbrev pub timer_at_reset : TimerState
timer_at_reset = record { software = false; time = 0; compare = 2 ^ 64 - 1 }

-- the timer after a tick
abbrev pub timer_ticked : TimerState → TimerState
timer_ticked timer = record timer { time = (timer.time + 1) % 2 ^ 64 }

-- whether the timer's line is high
abbrev pub is_due : TimerState → Bool
is_due timer = nat_le timer.compare timer.time

-- the registers: msip keeps bit 0 of a word
abbrev pub timer_register : TimerReg → Register TimerState
timer_register Msip = register (λ t. if t.software then 1 else 0) (λ t w. record t { software = w % 2 == 1 })
timer_register MtimecmpLow = register (λ t. t.compare % 2 ^ 32) (λ t w. record t { compare = with_low t.compare w })
timer_register MtimecmpHigh = register (λ t. t.compare / 2 ^ 32) (λ t w. record t { compare = with_high t.compare w })
timer_register MtimeLow = register (λ t. t.time % 2 ^ 32) (λ t w. record t { time = with_low t.time w })
timer_register MtimeHigh = register (λ t. t.time / 2 ^ 32) (λ t w. record t { time = with_high t.time w })

-- where each register lies, in bytes from the timer's first address
abbrev pub offsets : List (ℕ × TimerReg)
offsets =
    (0, Msip) ∷ (0x4000, MtimecmpLow) ∷ (0x4004, MtimecmpHigh) ∷ (0xbff8, MtimeLow) ∷ (0xbffc, MtimeHigh) ∷ []

-- the register at an offset, if there is one
abbrev pub register_at : ℕ → Option TimerReg
register_at off = option_map (λ row. row.1) (find (λ row. off == row.0) offsets)
