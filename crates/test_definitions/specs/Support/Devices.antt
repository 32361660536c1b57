-- Not to audit: rows of tests alone cite this.
-- What the rows of src/timer.rt say of the definition of the timer.
use Rattle.std.specs.Prelude.{ℕ, Bool, false, ◌==◌, ◌&&◌, List, fold}
use Rattle.std.specs.Bool.{beq}
use Rattle.std.specs.List.{range_with_len}
use Rattle.std.specs.Option.{option_map_or}
use Rattle.rv_mmio.specs.Timer.{TimerState, timer_at_reset, timer_ticked, is_due, timer_register, register_at}

-- the timer after a store at an offset that has a register
abbrev pub with_word : TimerState → ℕ × ℕ → TimerState
with_word timer store = option_map_or (λ reg. (timer_register reg).stored timer store.1) (register_at store.0) timer

-- the timer after stores and a number of ticks
abbrev pub timer_after : List (ℕ × ℕ) → ℕ → TimerState
timer_after stores ticks = fold (λ timer _. timer_ticked timer) (fold with_word timer_at_reset stores) (range_with_len 0 ticks)

-- the word that a load gives, and the level of the line
abbrev pub is_time : List (ℕ × ℕ) × ℕ × ℕ × ℕ × Bool → Bool
is_time row =
    let timer = timer_after row.0 row.1 in
    option_map_or (λ reg. (timer_register reg).word timer == row.3) (register_at row.2) false && beq (is_due timer) row.4
