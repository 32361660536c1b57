-- A run of user code, and what it can't do.
-- To audit: public contracts cite this.
use Rattle.std.specs.Prelude.{◌≡◌, ℕ, true, false, ◌<◌, ◌≤◌, List, length, take, fold, Some}
use Rattle.circular_buffer.specs.Buffer.{last_item}
use Rattle.rv_pmp.specs.declared.access.Access.TheVariants.{Write}
use Rattle.rv_pmp.specs.declared.mode.Mode.{Mode}
use Rattle.rv_pmp.specs.declared.mode.Mode.TheVariants.{User, Machine}
use Rattle.rv_bus.specs.Access.{ram_byte}
use Rattle.rv_hart.specs.Step.{ticked}
use Rattle.rv_hart.specs.Laws.{ChangesByAccess, EntersMachineMode, SameButCounters}
use Rattle.rv_board.specs.BoardState.{BoardState}
use Rattle.rv_board.specs.Agreement.{AgreeForUser, runs_user, user_may}
use Rattle.rv_board.specs.Move.{run, with_event}
use Rattle.rv_board.specs.declared.event.Event.{Event}
use Rattle.rv_board.specs.declared.event.Event.TheVariants.{Step}
use Rattle.rv_board.specs.declared.event.TrapRecord.{TrapRecord}

-- the first n events were done, one after another, and before each of them user code ran
pub record RanUser (old new : BoardState) (events : List Event) (n : ℕ) : Type 0 where
  pub within : n ≤ length events
  pub state : new ≡ run old (take n events)
  pub user : (k : ℕ) → k < n → runs_user (run old (take k events)) ≡ true

-- the last trap of a board began machine mode, by the control registers of an old one
pub record EndedByTrap (old new : BoardState) : Type 0 where
  pub trap : TrapRecord
  pub last : last_item new.traps ≡ Some trap
  pub entry : EntersMachineMode old.machine new.machine trap.cause trap.epc trap.tval

-- what user code leaves of the control registers, by the mode that it ends in: as they were, the counters
-- aside, or what the entry of its trap makes of them
abbrev pub LeavesControl : BoardState → BoardState → Mode → Type 0
LeavesControl old new User = SameButCounters old.machine.csrs new.machine.csrs
LeavesControl old new Machine = EndedByTrap old new

-- the board after an event in which the hart does nothing: time passes, or the event happens to the board
abbrev pub idle : BoardState → Event → BoardState
idle b Step = record b { machine = ticked b.machine }
idle b e = with_event b e

-- what user code can't do: no register of protection changed; no byte of the memory changed that user mode
-- may not write; no control register changed but the counters, and machine mode began by a trap alone; each
-- device is as time and outside events leave it, unless protection grants user mode an access to it; and on
-- every board that agrees with the old one for user code, the first n events make a board that agrees with the
-- new one, so nothing that can be read afterwards depends on a byte that user mode may neither read nor execute
pub record IsConfined (old new : BoardState) (events : List Event) (n : ℕ) : Type 0 where
  pub protection : new.machine.csrs.pmp ≡ old.machine.csrs.pmp
  pub unwritten : (addr : ℕ) → user_may old Write addr ≡ false
      → ram_byte new.machine.bus.ram addr ≡ ram_byte old.machine.bus.ram addr
  pub control : old.machine.mode ≡ User → LeavesControl old new new.machine.mode
  pub devices :
      ChangesByAccess old.machine.csrs.pmp User (fold idle old (take n events)).machine.bus new.machine.bus
  pub unseen : (other : BoardState) → AgreeForUser old other → AgreeForUser new (run other (take n events))
