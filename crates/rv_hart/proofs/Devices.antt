-- Which instructions change a device: loads and stores that are granted, at an address of its own. A source that is pending
-- stays so, whatever is loaded from or stored to the interrupt controller, until it is claimed.
use Rattle.std.proofs.Common.{rules, ◌≡◌, ℕ, ◌+◌, ◌-◌, ◌^◌, ◌==◌, Bool, true, false, length, Option, Some, None, Result, Ok, Err, nat_le, arith, refl, ◌*◌, ◌%◌, List, [], ◌∷◌, ◌++◌, map}
use Rattle.std.specs.Prelude.{◌&&◌, if◌then◌else◌, IfSome, find}
use Rattle.std.specs.FinSet.{contains, contains-remove}
use Rattle.std.proofs.lemmas.Bool.{and_from, cond_both, eqb-true, not_from_false}
use Rattle.std.specs.Ordering.{eq_by_cmp, nat_cmp}
use Rattle.std.proofs.lemmas.Cmp.{nat_cmp_total}
use Rattle.rv_base.specs.Registers.{Register, register}
use Rattle.rv_plic.specs.Gateways.{PlicState}
use Rattle.rv_plic.specs.Plic.{plic_register, claimed, completed, priority_of, registers, with_priority}
use Rattle.rv_isa.specs.Width.{bytes_of}
use Rattle.rv_isa.specs.Support.Loads.{load_width, load_value}
use Rattle.rv_isa.specs.declared.op.CsrOp.{CsrOp}
use Rattle.rv_isa.specs.declared.op.LoadOp.{LoadOp}
use Rattle.rv_isa.specs.declared.op.Width.{Width}
use Rattle.rv_isa.specs.declared.kind.Kind.{Kind}
use Rattle.rv_isa.specs.declared.kind.Kind.TheVariants.{Load, Store}
use Rattle.rv_pmp.specs.Pmp.{grants}
use Rattle.rv_pmp.specs.declared.access.Access.{Access}
use Rattle.rv_pmp.specs.declared.access.Access.TheVariants.{Read, Write}
use Rattle.rv_pmp.specs.declared.mode.Mode.TheVariants as mode
use Rattle.rv_pmp.proofs.Decision.{grants_each}
use Rattle.rv_csr.specs.Traps.{data_mode}
use Rattle.rv_bus.specs.State.{BusState}
use Rattle.rv_bus.specs.Access.{load, store}
use Rattle.rv_bus.specs.Support.AtLocation.{load_at, location, store_at}
use Rattle.rv_bus.specs.Support.Locations.{has, location_of}
use Rattle.rv_bus.specs.declared.locations.Location.{Location}
use Rattle.rv_bus.specs.declared.locations.Location.TheVariants.{Ram, Halt, Timer, Plic, Serial, Nowhere}
use Rattle.rv_bus.proofs.Rows.{at_location}
use Rattle.rv_hart.specs.State.{Machine}
use Rattle.rv_hart.specs.Effect.{csr_change, effect, exchange, execute, reg}
use Rattle.rv_hart.specs.Laws.{ChangesByAccess, accessed, is_best}
use Rattle.rv_hart.specs.Step.{step, ticked, fetched, attempt, counts, enter}
use Rattle.rv_hart.specs.Support.EffectParts.{Effect, at_next, load_effect, load_result, may_access, return_effect, store_effect, store_result, with_result}
use Rattle.rv_hart.specs.declared.trap.Trap.{Trap}

-- a register, by its offset, keeps what is pending
pub record KeepsPending (r : ℕ × Register PlicState) : Type 0 where
  pub loaded : (p : PlicState) (s : ℕ) → (r.0 == 0x200004 && is_best p s) ≡ false → contains p.pending s ≡ true
      → contains (r.1.loaded p).pending s ≡ true
  pub stored : (p : PlicState) (word : ℕ) → (r.1.stored p word).pending ≡ p.pending

-- ---- each row of the interrupt controller

same_source : (s b : ℕ) → (b == s) ≡ false → eq_by_cmp nat_cmp s b ≡ false
same_source s b apart = search rules

claimed_keeps : (p : PlicState) (s : ℕ) → is_best p s ≡ false → contains p.pending s ≡ true
    → contains (claimed p).pending s ≡ true
claimed_keeps p s out is = search (rules, contains-remove nat_cmp_total p.pending, and_from, not_from_false, same_source)

completed_keeps : (p : PlicState) (word : ℕ) → (completed p word).pending ≡ p.pending
completed_keeps p word = search rules

abbrev AllKeep : List (ℕ × Register PlicState) → Type 0
AllKeep [] = Unit {0}
AllKeep (r ∷ rs) = KeepsPending r × AllKeep rs

priorities : (ns : List ℕ) (rest : List (ℕ × Register PlicState)) → AllKeep rest
    → AllKeep (map (λ s. (4 * s, register (λ p. priority_of p s) (λ p word. with_priority p s (word % 8)))) ns ++ rest)
priorities [] rest later = later
priorities (s ∷ ns) rest later = search (rules, priorities ns rest)

all_keep : AllKeep registers
unfolding registers
all_keep = search (rules, priorities, claimed_keeps, completed_keeps)

-- ---- the register at an offset

abbrev Found : ℕ → Option (ℕ × Register PlicState) → Type 0
Found off None = Unit {0}
Found off (Some r) = KeepsPending r × (off ≡ r.0)

found : (off : ℕ) (rs : List (ℕ × Register PlicState)) → AllKeep rs → Found off (find (λ row. off == row.0) rs)
found off [] keep = tt
found off (r ∷ rs) keep = search (rules, cond_both, eqb-true, found off rs)

pub at_keeps : (off : ℕ) → KeepsPending (off, plic_register off)
unfolding plic_register
at_keeps off = search (rules, found, all_keep)

-- ---- the addresses of a location

-- whether an address is among those of a device
abbrev belongs : ℕ → Location → Bool
belongs a (Ram off) = true
belongs a Halt = has 0x00100000 4 a
belongs a (Timer reg) = has 0x02000000 0xc000 a
belongs a (Plic off) = has 0x0c000000 0x4000000 a && (off == a - 0x0c000000)
belongs a (Serial reg) = has 0x10000000 12 a
belongs a Nowhere = true

located : (size a : ℕ) (w : Width) → belongs a (location_of size a w) ≡ true
unfolding location_of
located size a w = search rules

-- ---- a load and a store on the bus

-- an address is none of a device, so the location there isn't that device
abbrev IsApart : ℕ → ℕ → ℕ → Type 0
IsApart first size a = has first size a ≡ false

pub record LeavesByLoad (a : ℕ) (b new : BusState) : Type 0 where
  pub halt : new.halt ≡ b.halt
  pub timer : new.timer ≡ b.timer
  pub plic : IsApart 0x0c000000 0x4000000 a → new.plic ≡ b.plic
  pub serial : IsApart 0x10000000 12 a → new.serial ≡ b.serial
  pub pending : (s : ℕ) → (a == 0x0c200004 && is_best b.plic s) ≡ false → contains b.plic.pending s ≡ true
      → contains new.plic.pending s ≡ true

pub record LeavesByStore (a : ℕ) (b new : BusState) : Type 0 where
  pub halt : IsApart 0x00100000 4 a → new.halt ≡ b.halt
  pub timer : IsApart 0x02000000 0xc000 a → new.timer ≡ b.timer
  pub plic : IsApart 0x0c000000 0x4000000 a → new.plic ≡ b.plic
  pub serial : IsApart 0x10000000 12 a → new.serial ≡ b.serial
  pub pending : (s : ℕ) → contains b.plic.pending s ≡ true → contains new.plic.pending s ≡ true

module _ (b : BusState) (a : ℕ) (w : Width) where
  at_claim : (off : ℕ) → belongs a (Plic off) ≡ true → (off == 0x200004) ≡ (a == 0x0c200004)
  at_claim off is = search rules

  loads_at : (p : Location) → belongs a p ≡ true → IfSome (load_at b p w) (λ (r : ℕ × BusState). LeavesByLoad a b r.1)
  loads_at (Plic off) is = search (rules, (at_keeps off).loaded, at_claim off is)
  loads_at p is = search rules

  stores_at : (v : ℕ) (p : Location) → belongs a p ≡ true → IfSome (store_at b p w v) (LeavesByStore a b)
  stores_at v (Plic off) is = search (rules, (at_keeps off).stored)
  stores_at v p is = search rules

  after_load : IfSome (load b a w) (λ (r : ℕ × BusState). LeavesByLoad a b r.1)
  after_load = search (rules, at_location, loads_at, located)

  after_store : (v : ℕ) → IfSome (store b a w v) (LeavesByStore a b)
  after_store v = rw (at_location b a w).store (stores_at v (location b a w) (located (length b.ram) a w))

-- ---- an instruction

-- what an instruction that retires does on the bus: nothing, a load that was granted, or a store
pub data Reaches (m : Machine) (k : Kind) (new : Machine) : Type 0 where
  nothing : new.bus ≡ m.bus → Reaches m k new
  loaded : (a : ℕ) → accessed k m ≡ Some a → grants m.csrs.pmp (data_mode m.csrs m.mode) Read a 1 ≡ true
      → LeavesByLoad a m.bus new.bus → Reaches m k new
  stored : (a : ℕ) → accessed k m ≡ Some a → grants m.csrs.pmp (data_mode m.csrs m.mode) Write a 1 ≡ true
      → LeavesByStore a m.bus new.bus → Reaches m k new

-- a fact of the machine after an instruction that retires
abbrev pub IfRetired : (Machine → Type 0) → Effect → Type 0
IfRetired P (Ok new) = P new
IfRetired P (Err t) = Unit {0}

-- an instruction ends in a trap that isn't an interrupt, or in a machine of which a fact holds
abbrev pub Ends : Machine → Kind → (Machine → Type 0) → Effect → Type 0
Ends m k P (Ok new) = Reaches m k new × P new
Ends m k P (Err t) = nat_le (2 ^ 31) t.cause ≡ false

-- the first byte of an access that is granted
first_granted : (m : Machine) (access : Access) (a : ℕ) (w : Width) → may_access m access a w ≡ true
    → grants m.csrs.pmp (data_mode m.csrs m.mode) access a 1 ≡ true
first_granted m access a w granted =
    let at : a ≡ a + 0 = omega arith in
    rw at (grants_each m.csrs.pmp (data_mode m.csrs m.mode) access a (bytes_of w) 0 (search (rules, arith)) granted)

-- the fact is one of every machine with the mode and the control registers of this one
module _ (m : Machine) (P : Machine → Type 0) (same : (new : Machine) → new.mode ≡ m.mode → new.csrs ≡ m.csrs → P new)
    (registers : (k : Kind) (op : CsrOp) (field operand rd csr : ℕ)
    → IfRetired P (exchange k (at_next m) (csr_change op field) operand rd csr)) (is : IfRetired P (return_effect m m.mode)) where
  accesses_by : (k : Kind) (aligned granted : Bool) (x refused misaligned : Effect) → (granted ≡ true → Ends m k P x)
      → Ends m k P refused → Ends m k P misaligned
      → Ends m k P (if aligned then (if granted then x else refused) else misaligned)
  accesses_by k aligned granted x refused misaligned done r s = search rules

  loads_of : (k : Kind) (op : LoadOp) (rd addr : ℕ) (r : Option (ℕ × BusState)) → accessed k m ≡ Some addr
      → may_access m Read addr (load_width op) ≡ true
      → IfSome r (λ (r : ℕ × BusState). LeavesByLoad addr m.bus r.1) → Ends m k P (load_result m op rd addr r)
  loads_of k op rd addr None at granted leaves = refl
  loads_of k op rd addr (Some r) at granted leaves = (
    loaded addr at (first_granted m Read addr (load_width op) granted) leaves,
    same (with_result (record m { bus = r.1 }) rd (load_value op r.0)) refl refl,
  )

  stores_of : (k : Kind) (w : Width) (addr : ℕ) (after : Option BusState) → accessed k m ≡ Some addr
      → may_access m Write addr w ≡ true → IfSome after (LeavesByStore addr m.bus)
      → Ends m k P (store_result m addr after)
  stores_of k w addr None at granted leaves = refl
  stores_of k w addr (Some b) at granted leaves =
      (stored addr at (first_granted m Write addr w granted) leaves, same (at_next (record m { bus = b })) refl refl)

  -- where those keep it that change the mode or a control register, each instruction does
  pub ends : (k : Kind) → Ends m k P (effect k m)
  unfolding execute load_effect store_effect return_effect
  ends (Load op rd base offset) = search (rules, accesses_by, loads_of, after_load)
  ends (Store w source base offset) = search (rules, accesses_by, stores_of, after_store)
  ends k = search rules

  pub rows : (k : Kind) → IfRetired P (effect k m)
  rows k = let end : Ends m k P (effect k m) = ends k in search rules

-- of any machine
pub all_end : (m : Machine) (k : Kind) → Ends m k (λ new. Unit {0}) (effect k m)
all_end m = ends m (λ new. Unit {0}) (λ new mode csrs. tt) (λ k op field operand rd csr. search rules) (search rules)

pub reaches : (m : Machine) (k : Kind) → IfRetired (Reaches m k) (effect k m)
reaches m k = by (effect k m) (all_end m k) where
  by : (e : Effect) → Ends m k (λ new. Unit {0}) e → IfRetired (Reaches m k) e
  by (Ok new) end = end.0
  by (Err t) end = tt

-- ---- a step, and what is denied stays as it is

attempts : (m : Machine) (f : Result Kind Trap)
    → ChangesByAccess m.csrs.pmp (data_mode m.csrs m.mode) m.bus (attempt m f).0.bus
unfolding counts enter
attempts m (Ok k) = let reached : IfRetired (Reaches m k) (effect k m) = reaches m k in search rules
attempts m (Err t) = search rules

pub devices_change : (m : Machine) → ChangesByAccess m.csrs.pmp (data_mode m.csrs m.mode) (ticked m).bus (step m).0.bus
unfolding step
devices_change m = attempts (ticked m) (fetched (ticked m))
