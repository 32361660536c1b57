-- Interrupts, traps and the return from them. RISC-V Privileged Architecture 20211203, sections 3.1.6, 3.1.7,
-- 3.1.9 and 3.3.2.
-- To audit: public contracts cite this.
use Rattle.std.specs.Prelude.{ℕ, ◌+◌, ◌-◌, ◌*◌, ◌%◌, ◌^◌, true, false, ◌==◌, ◌&&◌, not, nat_le, if◌then◌else◌, [], ◌∷◌, find, Option, None}
use Rattle.std.specs.Option.{option_map}
use Rattle.rv_isa.specs.Number.{flag}
use Rattle.rv_isa.specs.declared.Lines.{Lines}
use Rattle.rv_pmp.specs.Mode.{is_machine}
use Rattle.rv_pmp.specs.declared.mode.Mode.{Mode}
use Rattle.rv_pmp.specs.declared.mode.Mode.TheVariants.{User}
use Rattle.rv_csr.specs.Registers.{aligned, lines_word}
use Rattle.rv_csr.specs.State.{CsrState}

-- ---- interrupts

-- the cause of the interrupt that is taken in a mode, if any: the first of the external one, the software one
-- and that of the timer whose bit is 1 in mip and in mie; in machine mode none unless MIE is set. A cause is
-- the interrupt bit with the number of that bit (section 3.1.9)
unfoldable pub next_interrupt : CsrState → Mode → Lines → Option ℕ
next_interrupt state mode lines =
    if is_machine mode && not state.mstatus.mie then None else option_map (λ code. 2 ^ 31 + code)
    (find (λ code. flag (lines_word lines) code && flag (lines_word state.mie) code) (11 ∷ 3 ∷ 7 ∷ []))

-- ---- trap entry and return

-- the state after a trap is entered: MPIE becomes MIE, MIE 0, and MPP the mode (section 3.1.6.1); mepc, mcause and
-- mtval are set (sections 3.1.14, 3.1.15 and 3.1.16)
unfoldable pub entered : CsrState → ℕ → ℕ → ℕ → Mode → CsrState
entered state cause epc tval mode =
    let status = record state.mstatus { mie = false; mpie = state.mstatus.mie; mpp = mode } in
    record state { mstatus = status; mepc = aligned epc; mcause = cause; mtval = tval }

-- the address of the trap handler: the base of mtvec, or, for an interrupt in vectored mode, the base plus 4
-- times its code (section 3.1.7)
unfoldable pub trap_pc : CsrState → ℕ → ℕ
trap_pc state cause =
    if (state.mtvec % 2 == 1) && nat_le (2 ^ 31) cause
    then (aligned state.mtvec + 4 * (cause - 2 ^ 31)) % 2 ^ 32 else aligned state.mtvec

-- the state after the return from a trap: MIE becomes MPIE, MPIE 1, and MPP user mode; MPRV is cleared unless
-- the return is to machine mode (sections 3.1.6.1 and 3.3.2)
unfoldable pub after_return : CsrState → CsrState
after_return state =
    let old = state.mstatus in
    let new = record old { mie = old.mpie; mpie = true; mpp = User; mprv = old.mprv && is_machine old.mpp } in
    record state { mstatus = new }

-- the mode whose permissions loads and stores have: MPP if MPRV is set, else the mode itself (section 3.1.6.3)
abbrev pub data_mode : CsrState → Mode → Mode
data_mode state mode = if state.mstatus.mprv then state.mstatus.mpp else mode
