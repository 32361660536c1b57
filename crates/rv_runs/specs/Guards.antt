-- To audit: public contracts cite this.
-- Guards of breakpoints: conditions, and how many hits runs go past (this project's own: docs/LAB.md).
use Rattle.std.specs.Prelude.{ℕ, zero, suc, pred, ◌-◌, ◌++◌, ◌==◌, ◌&&◌, Bool, true, false, List, [], ◌∷◌, map, if◌then◌else◌, nat_lt, Option, Some, None, option_and_then}
use Rattle.std.specs.List.{position, remove}
use Rattle.std.specs.Option.{option_map_or}
use Rattle.rv_hart.specs.declared.trap.Outcome.TheVariants.{Retired}
use Rattle.rv_board.specs.BoardState.{BoardState}
use Rattle.rv_monitor.specs.State.{SessionState, after}
use Rattle.rv_recording.specs.Until.{holds}
use Rattle.rv_recording.specs.declared.until.End.{End}
use Rattle.rv_recording.specs.declared.until.End.TheVariants.{Breakpoint, Stuck}
use Rattle.rv_runs.specs.declared.guard.Guard.{Guard}

-- ---- the guards

-- whether a guard is that of the breakpoint at an address
abbrev pub is_at : ℕ → Guard → Bool
is_at a g = g.address == a

-- the guard of the breakpoint at an address, if it has one
unfoldable pub guard_at : List Guard → ℕ → Option Guard
guard_at [] a = None
guard_at (g ∷ gs) a = if is_at a g then Some g else guard_at gs a

-- the guards without that of the breakpoint at an address, and with another one for it
abbrev pub without_guard : ℕ → List Guard → List Guard
without_guard a gs = option_map_or (λ n. remove gs n) (position (is_at a) gs) gs

abbrev pub with_guard : Guard → List Guard → List Guard
with_guard g gs = without_guard g.address gs ++ g ∷ []

-- ---- the hits

-- whether a board stands at the breakpoint of a guard, and its condition holds there, if it has one, whatever the last
-- step did
unfoldable pub is_met : Guard → BoardState → Bool
is_met g b = is_at b.machine.pc g && option_map_or (λ c. holds c Retired b) g.condition true

abbrev pub is_break : Option End → Bool
is_break (Some Breakpoint) = true
is_break other = false

-- whether step n of a run from a session on is a hit, by why the run would be over without guards: it comes to the
-- breakpoint, and the condition holds there
unfoldable pub is_hit : Guard → SessionState → (ℕ → Option End) → ℕ → Bool
is_hit g s ends n = is_break (ends n) && is_met g (after s.timed n).board

-- the number of hits among its first n steps
unfoldable pub hits : Guard → SessionState → (ℕ → Option End) → ℕ → ℕ
hits g s ends zero = zero
hits g s ends (suc n) = if is_hit g s ends (suc n) then suc (hits g s ends n) else hits g s ends n

-- the guards after them, which runs go past so many times less
abbrev pub counted_by : SessionState → (ℕ → Option End) → ℕ → Guard → Guard
counted_by s ends n g = record g { passes = g.passes - hits g s ends n }

abbrev pub counted : List Guard → SessionState → (ℕ → Option End) → ℕ → List Guard
counted gs s ends n = map (counted_by s ends n) gs

-- ---- the ends of a run

-- whether a breakpoint where a board stands stops a run: unless it has a guard whose condition doesn't hold there, or
-- that the run goes past
unfoldable pub stops : List Guard → BoardState → Bool
stops gs b = option_map_or (λ g. is_met g b && g.passes == 0) (guard_at gs b.machine.pc) true

-- why a run is over that comes to one of its ends where a session stands: it goes on at a breakpoint that doesn't stop
-- it, if more steps may be taken
abbrev pub end_here : List Guard → SessionState → End → Option End
end_here gs s Breakpoint =
    if stops gs s.timed.board then Some Breakpoint else (if nat_lt s.timed.taken s.limit then None else Some Stuck)
end_here gs s end = Some end

-- why a run from a session on is over after n steps, by why it would be without guards, and by the guards as the steps
-- before the last leave them
abbrev pub passing : List Guard → SessionState → (ℕ → Option End) → ℕ → Option End
passing gs s ends n =
    option_and_then (end_here (counted gs s ends (pred n)) (record s { timed = after s.timed n })) (ends n)
