-- To audit: public contracts cite this.
-- A run, which ends after the first step with which it comes to what it goes on for: for the run until a
-- condition holds, that the condition holds after it.
use Rattle.std.specs.Prelude.{◌≡◌, ℕ, zero, suc, pred, ◌-◌, ◌&&◌, not, nat_le, nat_eq, nat_lt, Bool, true, false, if◌then◌else◌, slice_index, Option, Some, None, is_some, length, unwrap_or}
use Rattle.std.specs.Option.{option_eq, option_map_or}
use Rattle.std.specs.FinSet as set
use Rattle.rv_isa.specs.Alu.{is_taken}
use Rattle.rv_hart.specs.declared.trap.Outcome.{Outcome}
use Rattle.rv_hart.specs.declared.trap.Outcome.TheVariants.{Trapped}
use Rattle.rv_hart.specs.Step.{step}
use Rattle.rv_board.specs.BoardState.{BoardState}
use Rattle.rv_monitor.specs.State.{Addresses, SessionState, TimedState, after, with_due}
use Rattle.rv_monitor.specs.Views.{word_at}
use Rattle.rv_recording.specs.declared.until.Watched.{Watched}
use Rattle.rv_recording.specs.declared.until.Watched.TheVariants.{Register, Word}
use Rattle.rv_recording.specs.declared.until.Condition.{Condition}
use Rattle.rv_recording.specs.declared.until.Condition.TheVariants.{Trap, Console, At, Changed, Compares}
use Rattle.rv_recording.specs.declared.until.End.{End}
use Rattle.rv_recording.specs.declared.until.End.TheVariants.{Halted, Reached, Breakpoint, Limit, Stuck}

-- ---- conditions

-- the value of what is watched, if it has one
abbrev pub watched_value : BoardState → Watched → Option ℕ
watched_value b (Register r) = Some (slice_index b.machine.registers r)
watched_value b (Word addr) = word_at b addr

-- whether a condition holds after a step that did that, on the board that it left. What is watched compares with
-- a word as a branch compares the two, or as it compares them exchanged
unfoldable pub holds : Condition → Outcome → BoardState → Bool
holds Trap (Trapped cause epc tval) b = true
holds Trap did b = false
holds (Console sent) did b = nat_lt sent (length b.machine.bus.serial.sent)
holds (At addr size) did b = nat_le addr b.machine.pc && nat_lt (b.machine.pc - addr) size
holds (Changed watched old) did b = not (option_eq nat_eq (watched_value b watched) old)
holds (Compares watched cond exchanged word) did b = option_map_or
    (λ w. if exchanged then is_taken cond word w else is_taken cond w word) (watched_value b watched) false

-- whether it holds after n steps of a state, by what the last of them did
unfoldable pub comes : Condition → TimedState → ℕ → Bool
comes condition s n = holds condition (step (with_due (after s (pred n))).board.machine).1 (after s n).board

-- ---- the steps of a run

-- why a run from a session on is over after n steps, if it is: the board has halted; or, after its first step, it
-- has come to what it goes on for or to a breakpoint; or the session may take no more steps
abbrev pub end_at : (reached : ℕ → Bool) → Addresses → SessionState → ℕ → Option End
end_at reached breaks s n =
    let now = after s.timed n in
    if is_some now.board.machine.bus.halt then Some Halted
    else (if nat_lt 0 n && reached n then Some Reached
    else (if nat_lt 0 n && set.contains breaks now.board.machine.pc then Some Breakpoint
    else (if nat_lt now.taken s.limit then None else Some Stuck)))

-- how many steps a run takes that takes at most some, by why it is over after each number of them: one step more
-- is one more, unless it is over before
unfoldable pub steps_of : (ℕ → Option End) → (most : ℕ) → ℕ
steps_of ends zero = zero
steps_of ends (suc most) = if is_some (ends (steps_of ends most)) then steps_of ends most else suc (steps_of ends most)

-- a run of at most some steps took those, and ended so
pub record HasRun (ends : ℕ → Option End) (most : ℕ) (old new : SessionState) (end : End) : Type 0 where
  pub state : new ≡ record old { timed = after old.timed (steps_of ends most) }
  pub ended : end ≡ unwrap_or (ends (steps_of ends most)) Limit

-- why a run of steps past any breakpoint is over, one up to a breakpoint, and one until a condition holds
abbrev pub step_ends : SessionState → ℕ → Option End
step_ends s = end_at (λ i. false) set.empty s

abbrev pub break_ends : SessionState → ℕ → Option End
break_ends s = end_at (λ i. false) s.breakpoints.addresses s

abbrev pub until_ends : Condition → SessionState → ℕ → Option End
until_ends condition s = end_at (comes condition s.timed) s.breakpoints.addresses s
