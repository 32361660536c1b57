-- Not to audit: private contracts alone cite this.
-- A trap that a search has found.
use Rattle.std.specs.Prelude.{ℕ, ◌+◌, Bool, false, if◌then◌else◌, is_some, Option, Some, None}
use Rattle.std.specs.Option.{option_map, option_map_or}
use Rattle.rv_hart.specs.Step.{step}
use Rattle.rv_monitor.specs.State.{SessionState, TimedState, after, with_due}
use Rattle.rv_why.specs.Taken.{board_at, is_trap, outcome_at}
use Rattle.rv_why.specs.Why.{handler_of, told}
use Rattle.rv_why.specs.declared.search.Found.{Found}

-- a session after its next step
abbrev pub next_of : SessionState → SessionState
next_of s = record s { timed = after s.timed 1 }

-- the trap of the next step, if it is one, which n steps come before
abbrev pub trap_of : ℕ → TimedState → Option Found
trap_of n s =
    let did = (step (with_due s).board.machine).1 in
    if is_trap did then Some (record { step = n; did = did; handler = handler_of (after s 1).board }) else None

-- a later one in place of one before
abbrev pub later_of : Option Found → Option Found → Option Found
later_of None before = before
later_of later before = later

-- one that met no handler
abbrev pub is_last : Option Found → Bool
is_last found = option_map_or (λ (f : Found). is_some f.handler.missing) found false

-- that of a state after n steps
abbrev pub found_at : TimedState → ℕ → Found
found_at s n = record { step = n; did = outcome_at s n; handler = handler_of (board_at s (n + 1)) }

-- what is told of the first n steps of a state
abbrev pub found_in : TimedState → ℕ → Option Found
found_in s n = option_map (found_at s) (told s n)
