-- Laws of a step: where machine mode begins, what changes a device, which interrupt is taken and which stay
-- pending, and the way back from a trap. RISC-V Privileged Architecture 20211203, sections 2.1, 3.1, 3.1.6.1,
-- 3.1.7, 3.1.9, 3.3.2 and 3.7; the addresses of the devices are those of docs/BOARD.md.
-- To audit: public contracts cite this.
use Rattle.std.specs.Prelude.{◌≡◌, ℕ, ◌+◌, ◌-◌, ◌^◌, ◌<◌, ◌≤◌, Bool, true, false, ◌==◌, ◌&&◌, not, nat_le, nat_lt, if◌then◌else◌, Option, Some, None}
use Rattle.std.specs.FinSet.{contains}
use Rattle.std.specs.Option.{option_map_or}
use Rattle.std.specs.Result.{is_ok}
use Rattle.rv_isa.specs.declared.kind.Kind.{Kind}
use Rattle.rv_isa.specs.declared.kind.Kind.TheVariants.{Load, Store}
use Rattle.rv_isa.specs.declared.Lines.{Lines}
use Rattle.rv_pmp.specs.Mode.{is_machine}
use Rattle.rv_pmp.specs.Pmp.{PmpState, grants}
use Rattle.rv_pmp.specs.declared.access.Access.{Access}
use Rattle.rv_pmp.specs.declared.access.Access.TheVariants.{Read, Write}
use Rattle.rv_pmp.specs.declared.mode.Mode.{Mode}
use Rattle.rv_pmp.specs.declared.mode.Mode.TheVariants.{User}
use Rattle.rv_pmp.specs.declared.mode.Mode.TheVariants as mode
use Rattle.rv_csr.specs.State.{CsrState}
use Rattle.rv_csr.specs.Registers.{aligned}
use Rattle.rv_csr.specs.Traps.{trap_pc}
use Rattle.rv_plic.specs.Plic.{PlicState, best}
use Rattle.rv_bus.specs.State.{BusState}
use Rattle.rv_bus.specs.Access.{lines_of}
use Rattle.rv_hart.specs.State.{Machine}
use Rattle.rv_hart.specs.Effect.{effect, plus, reg}
use Rattle.rv_hart.specs.Step.{ticked, tries}
use Rattle.rv_hart.specs.declared.trap.Outcome.{Outcome}
use Rattle.rv_hart.specs.declared.trap.Outcome.TheVariants.{Trapped}

-- ---- where machine mode begins

-- the control registers are those of another state, except for mcycle and minstret. mip isn't among them: it
-- shows the levels of the interrupt lines
abbrev pub SameButCounters : CsrState → CsrState → Type 0
SameButCounters old new = new ≡ record old { mcycle = new.mcycle; minstret = new.minstret }

-- a trap from user mode begins machine mode where mtvec says. mepc, mcause and mtval are those of the trap; MPIE
-- is MIE, MIE 0 and MPP user mode; every other control register is as it was, the counters aside
pub record EntersMachineMode (old new : Machine) (cause epc tval : ℕ) : Type 0 where
  pub mode : new.mode ≡ mode.Machine
  pub pc : new.pc ≡ trap_pc old.csrs cause
  pub csrs : let status = record old.csrs.mstatus { mie = false; mpie = old.csrs.mstatus.mie; mpp = User } in
      SameButCounters
      (record old.csrs { mstatus = status; mepc = aligned epc; mcause = cause; mtval = tval }) new.csrs

-- a step from user mode leaves user mode and the control registers as they were, or it ends in a trap at its pc,
-- which begins machine mode and leaves the registers, the memory and the devices, but for the tick of time
abbrev pub ChangesByTrap : Machine → Machine → Outcome → Type 0
ChangesByTrap old new (Trapped cause epc tval) =
    EntersMachineMode old new cause epc tval × (epc ≡ old.pc) × (new.registers ≡ old.registers)
    × (new.bus ≡ (ticked old).bus)
ChangesByTrap old new outcome = (new.mode ≡ User) × SameButCounters old.csrs new.csrs

-- ---- devices

-- protection denies a mode an access of a kind to each of `size` bytes from `first` on
abbrev pub IsDenied : PmpState → Mode → Access → ℕ → ℕ → Type 0
IsDenied pmp mode access first size =
    (addr : ℕ) → first ≤ addr → addr < first + size → grants pmp mode access addr 1 ≡ false

-- each device is as it would be otherwise, unless protection grants a mode an access to it: the halt register and the timer
-- change by stores, the interrupt controller and the serial port by loads as well
pub record ChangesByAccess (pmp : PmpState) (mode : Mode) (otherwise new : BusState) : Type 0 where
  pub halt : IsDenied pmp mode Write 0x00100000 4 → new.halt ≡ otherwise.halt
  pub timer : IsDenied pmp mode Write 0x02000000 0xc000 → new.timer ≡ otherwise.timer
  pub controller : IsDenied pmp mode Read 0x0c000000 0x4000000 → IsDenied pmp mode Write 0x0c000000 0x4000000
      → new.plic ≡ otherwise.plic
  pub serial : IsDenied pmp mode Read 0x10000000 12 → IsDenied pmp mode Write 0x10000000 12
      → new.serial ≡ otherwise.serial

-- ---- interrupts

-- the interrupt that goes first, by its bit in mip and mie, if any: the external one, else the software one, else
-- that of the timer, where it is pending and enabled; in machine mode none unless MIE is set
abbrev pub first_interrupt : CsrState → Mode → Lines → Option ℕ
first_interrupt csrs mode lines =
    if is_machine mode && not csrs.mstatus.mie then None
    else (if lines.external && csrs.mie.external then Some 11
    else (if lines.software && csrs.mie.software then Some 3
    else (if lines.timer && csrs.mie.timer then Some 7 else None)))

-- the interrupt that a step took, if any: the cause without its interrupt bit
abbrev pub interrupt_taken : Outcome → Option ℕ
interrupt_taken (Trapped cause epc tval) = if nat_le (2 ^ 31) cause then Some (cause - 2 ^ 31) else None
interrupt_taken outcome = None

-- the address of a load or a store
abbrev pub accessed : Kind → Machine → Option ℕ
accessed (Load op rd base offset) m = Some (plus (reg m base) offset)
accessed (Store w source base offset) m = Some (plus (reg m base) offset)
accessed k m = None

-- whether a step retires a load or a store at one of `size` addresses from `first` on
abbrev pub accesses : Machine → ℕ → ℕ → Bool
accesses m first size =
    let is_there = λ (addr : ℕ). nat_le first addr && nat_lt (addr - first) size in
    let retires_there = λ (k : Kind). is_ok (effect k (ticked m)) && option_map_or is_there (accessed k (ticked m)) false in
    option_map_or retires_there (tries m) false

-- whether a source is the one that a claim returns
abbrev pub is_best : PlicState → ℕ → Bool
is_best plic s = option_map_or (λ found. found == s) (best plic) false

-- an interrupt that is pending stays so, taken or not, unless the step accesses what raises it: the timer, or the
-- interrupt controller. That of the timer also ends where mtime begins again at 0. A source of the controller
-- stays pending until it is claimed
pub record StaysPending (old new : Machine) : Type 0 where
  pub software : accesses old 0x02000000 0xc000 ≡ false → (lines_of old.bus).software ≡ true
      → (lines_of new.bus).software ≡ true
  pub timer : accesses old 0x02000000 0xc000 ≡ false → old.bus.timer.time + 1 < 2 ^ 64
      → (lines_of old.bus).timer ≡ true → (lines_of new.bus).timer ≡ true
  pub external : accesses old 0x0c000000 0x4000000 ≡ false → (lines_of old.bus).external ≡ true
      → (lines_of new.bus).external ≡ true
  pub sources : (s : ℕ) → (accesses old 0x0c200004 1 && is_best (ticked old).bus.plic s) ≡ false
      → contains old.bus.plic.pending s ≡ true → contains new.bus.plic.pending s ≡ true

-- ---- the return from a trap

-- a machine is back where another was: at its pc, in its mode, with interrupts enabled if they were, and with its
-- registers and memory. mepc keeps no pc but multiples of 4, and a board has no other
pub record IsBack (old new : Machine) : Type 0 where
  pub pc : new.pc ≡ aligned old.pc
  pub mode : new.mode ≡ old.mode
  pub interrupts : new.csrs.mstatus.mie ≡ old.csrs.mstatus.mie
  pub registers : new.registers ≡ old.registers
  pub memory : new.bus.ram ≡ old.bus.ram
