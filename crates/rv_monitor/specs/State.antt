-- To audit: public contracts cite this.
-- The state of a session.
use Rattle.std.specs.Prelude.{◌≡◌, ℕ, ◌+◌, ◌≤◌, true, List, length, drop, filter, nat_le, nat_lt}
use Rattle.std.specs.List.{list_all}
use Rattle.rv_program.specs.Program.{Assembly}
use Rattle.rv_board.specs.BoardState.{BoardState}
use Rattle.rv_board.specs.Move.{run}
use Rattle.rv_board.specs.declared.event.Event.{Event}
use Rattle.rv_timeline.specs.Timed.{never_falls, inserted}
use Rattle.rv_timeline.specs.declared.input.Input.{Input}
use Rattle.rv_timeline.specs.declared.input.TimedInput.{TimedInput}
pub use Rattle.rv_monitor.specs.Breaks.{Addresses}
use Rattle.rv_monitor.specs.Breaks.{Breaks, no_breaks, with_address, without_address}
use Rattle.rv_monitor.specs.Events.{inputs_at, events_of}

-- a board with all its timed inputs, the index of the next one, and the number of steps taken
pub record TimedState : Type 0 where
  pub board : BoardState
  pub inputs : List TimedInput
  pub place : ℕ
  pub taken : ℕ

-- that with the program that was booted, the largest number of steps that may be taken, and the breakpoints,
-- which are a set of addresses (`breakpoints.addresses`)
pub record SessionState : Type 0 where
  pub timed : TimedState
  pub program : Assembly
  pub limit : ℕ
  pub breakpoints : Breaks

-- the inputs that are left to be given
abbrev pub rest : TimedState → List TimedInput
rest s = drop s.place s.inputs

-- the times of the inputs never fall, and the inputs of all steps taken were given
pub record IsInTime (s : TimedState) : Type 0 where
  pub within : s.place ≤ length s.inputs
  pub rising : never_falls s.inputs ≡ true
  pub ahead : list_all (λ x. nat_le s.taken x.step) (rest s) ≡ true

-- a board with its timed inputs before its first step
abbrev pub begun : BoardState → List TimedInput → TimedState
begun board inputs = record { board = board; inputs = inputs; place = 0; taken = 0 }

-- a session before its first step
abbrev pub new_session : BoardState → List TimedInput → Assembly → ℕ → SessionState
new_session board inputs program limit =
    record { timed = begun board inputs; program = program; limit = limit; breakpoints = no_breaks }

-- ---- breakpoints

-- a session with one breakpoint more
abbrev pub with_break : SessionState → ℕ → SessionState
with_break s address = record s { breakpoints = with_address s.breakpoints address }

-- a session with one breakpoint less
abbrev pub without_break : SessionState → ℕ → SessionState
without_break s address = record s { breakpoints = without_address s.breakpoints address }

-- ---- steps

-- the number of inputs with a time below `step`
abbrev pub count_before : ℕ → List TimedInput → ℕ
count_before step timed = length (filter (λ x. nat_lt x.step step) timed)

-- the state after events, with the inputs of all times below `step` given
abbrev pub past : TimedState → ℕ → List Event → TimedState
past s step events = record s { board = run s.board events; place = s.place + count_before step (rest s) }

-- the state after n more steps
unfoldable pub after : TimedState → ℕ → TimedState
after s n = record (past s (s.taken + n) (events_of (rest s) s.taken n)) { taken = s.taken + n }

-- the state with the inputs of the next step given
unfoldable pub with_due : TimedState → TimedState
with_due s = past s (s.taken + 1) (inputs_at (rest s) s.taken)

-- the state with an input given at once: it comes before the next step, after the other inputs of that step,
-- and the list has it
abbrev pub given : TimedState → Input → TimedState
given s input = with_due (record s { inputs = inserted s.inputs (record { step = s.taken; input = input }) })
