-- Locked entries of protection, which no event changes.
use Rattle.std.proofs.Common.{rules, arith, ◌≡◌, ℕ, List, ◌/◌, ◌%◌, ◌^◌, Bool, true, [], ◌∷◌, Option, Some, Result}
use Rattle.std.specs.Prelude.{if◌then◌else◌, ◌&&◌, not}
use Rattle.rv_isa.specs.declared.kind.Kind.{Kind}
use Rattle.rv_isa.specs.declared.op.CsrOp.{CsrOp}
use Rattle.rv_isa.specs.Number.{flag}
use Rattle.rv_pmp.specs.Entry.{addressed, configured, matching_of}
use Rattle.rv_pmp.specs.Pmp as protection
use Rattle.rv_pmp.specs.Pmp.{PmpState, is_locked_tor}
use Rattle.rv_pmp.proofs.Registers.{stored_entry}
use Rattle.rv_pmp.specs.declared.entry.Entry.{Entry}
use Rattle.rv_pmp.specs.declared.mode.Mode.{Mode}
use Rattle.rv_csr.specs.State.{CsrState}
use Rattle.rv_csr.specs.Registers.{write}
use Rattle.rv_csr.specs.Support.RegisterCases.{with_value_at}
use Rattle.rv_csr.proofs.Table.{write_by_cases}
use Rattle.rv_csr.specs.Traps.{entered, after_return}
use Rattle.rv_csr.specs.declared.register.Register.{Register}
use Rattle.rv_hart.specs.State.{Machine}
use Rattle.rv_hart.specs.Effect.{csr_change, effect, exchange}
use Rattle.rv_hart.specs.Support.EffectParts.{at_next, return_effect}
use Rattle.rv_hart.specs.Step.{step, ticked, fetched, attempt, counts, enter}
use Rattle.rv_hart.specs.declared.trap.Trap.{Trap}
use Rattle.rv_hart.proofs.Devices.{IfRetired, rows}
use Rattle.rv_board.specs.Support.State.{BoardState, halted_of, pmp_of}
use Rattle.rv_board.specs.Laws.{KeepsLocked}
use Rattle.rv_board.specs.Move.{moved, run}
use Rattle.rv_board.specs.Support.MoveParts.{happens}
use Rattle.rv_board.specs.declared.event.Event.{Event}

-- ---- one change after another

kept : (a : PmpState) → KeepsLocked a a
kept a = search (rules, arith)

kept_on : (a b c : PmpState) → KeepsLocked a b → KeepsLocked b c → KeepsLocked a c
unfolding is_locked_tor
kept_on a b c one two = search (rules, arith)

-- ---- a write to a register of protection

module _ (e : Entry) (byte word : ℕ) where
  fields : Entry
  fields = record e {
    readable = flag byte 0;
    writable = flag byte 0 && flag byte 1;
    executable = flag byte 2;
    locked = flag byte 7;
    matching = matching_of (byte / 2 ^ 3 % 4);
  }

  -- a locked entry after either write, or none
  locked_by : e.locked ≡ true → (config address : Bool)
      → (if config then configured e byte else (if address then addressed e word else e)) ≡ e
  unfolding configured fields addressed
  locked_by locked config address = search (rules, arith)

  -- the address of an entry at which a locked region begins
  below_by : (config address top : Bool) → top ≡ true
      → (if config then configured e byte else (if address && not top then addressed e word else e)).address ≡ e.address
  unfolding configured fields
  below_by config address top is = search (rules, arith)

store_kept : (pmp new : PmpState) (addr word : ℕ) → protection.write_register pmp addr word ≡ Some new
    → KeepsLocked pmp new
store_kept pmp new addr word is = search (rules, arith, stored_entry pmp new addr word is, locked_by, below_by)

-- ---- a write to a control register

module _ (state new : CsrState) (addr word : ℕ) where
  at_register : (found : Option Register) → with_value_at state addr word found ≡ Some new
      → KeepsLocked state.pmp new.pmp
  at_register found gives = search (rules, arith, kept, store_kept)

  wrote_kept : (d : Mode) → write state addr d word ≡ Some new → KeepsLocked state.pmp new.pmp
  wrote_kept d is = search (rules, arith, write_by_cases, at_register)

-- ---- a step

-- locked entries are as in another machine
abbrev KeptFrom : Machine → Machine → Type 0
KeptFrom m new = KeepsLocked m.csrs.pmp new.csrs.pmp

module _ (m : Machine) where
  same_registers : (new : Machine) → new.csrs ≡ m.csrs → KeptFrom m new
  same_registers new same = search (rules, arith, kept)

  registers : (k : Kind) (op : CsrOp) (field operand rd csr : ℕ)
      → IfRetired (KeptFrom m) (exchange k (at_next m) (csr_change op field) operand rd csr)
  registers k op field operand rd csr = search (rules, arith, wrote_kept, kept)

  returns : (d : Mode) → IfRetired (KeptFrom m) (return_effect m d)
  unfolding return_effect after_return
  returns d = search (rules, arith, kept)

  effects : (k : Kind) → IfRetired (KeptFrom m) (effect k m)
  effects = search (rules, arith, rows, same_registers, registers, returns)

  attempts : (f : Result Kind Trap) → KeptFrom m (attempt m f).0
  unfolding counts enter entered
  attempts f = search (rules, arith, kept, effects)

steps : (m : Machine) → KeptFrom m (step m).0
unfolding step
steps m = attempts (ticked m) (fetched (ticked m))

-- ---- events

happened : (halt : Option ℕ) (b : BoardState) (e : Event) → KeepsLocked (pmp_of b) (pmp_of (happens halt b e))
happened halt b e = search (rules, arith, kept, steps)

pub locked_stay : (b : BoardState) (events : List Event) → KeepsLocked (pmp_of b) (pmp_of (run b events))
unfolding moved
locked_stay b [] = kept (pmp_of b)
locked_stay b (e ∷ es) =
    kept_on (pmp_of b) (pmp_of (moved b e)) (pmp_of (run (moved b e) es)) (happened (halted_of b) b e)
    (locked_stay (moved b e) es)
