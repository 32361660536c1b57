-- The control registers by cases: the register at an address, its value, and the state after a write to it.
-- Not to audit: private contracts alone cite this. proofs/ proves that it is what the table says.
use Rattle.std.specs.Prelude.{ℕ, ◌+◌, ◌%◌, ◌/◌, ◌^◌, Bool, ◌==◌, ◌&&◌, ◌||◌, nat_le, false, if◌then◌else◌, unwrap_or, Option, Some, None}
use Rattle.std.specs.Option.{option_map, option_map_or}
use Rattle.rv_base.specs.Halves.{with_low, with_high}
use Rattle.rv_isa.specs.declared.Lines.{Lines}
use Rattle.rv_pmp.specs.Pmp as protection
use Rattle.rv_pmp.specs.declared.mode.Mode.{Mode}
use Rattle.rv_csr.specs.State.{CsrState}
use Rattle.rv_csr.specs.Registers.{mode_of, status_word, with_status, lines_word, word_lines, aligned}
use Rattle.rv_csr.specs.declared.register.Register.{Register}
use Rattle.rv_csr.specs.declared.register.Register.TheVariants.{Mstatus, Misa, Mie, Mtvec, Mscratch, Mepc, Mcause, Mtval, Mip, Mcycle, Mcycleh, Minstret, Minstreth, Zero}

-- whether an address is one of those from `first` to `last`
abbrev pub is_from_to : ℕ → ℕ → ℕ → Bool
is_from_to first last addr = nat_le first addr && nat_le addr last

-- whether a register is one that reads 0. These ignore writes: mcounteren, menvcfg, mstatush, menvcfgh,
-- mcountinhibit, mhpmevent3 to 31, mhpmcounter3 to 31 and their high halves. These are read-only: mvendorid,
-- marchid, mimpid, mhartid, mconfigptr
abbrev pub is_zero : ℕ → Bool
is_zero addr =
    (addr == 0x306) || ((addr == 0x30A) || ((addr == 0x310) || ((addr == 0x31A) || ((addr == 0x320)
    || (is_from_to 0xF11 0xF15 addr || (is_from_to 0x323 0x33F addr
    || (is_from_to 0xB03 0xB1F addr || is_from_to 0xB83 0xB9F addr)))))))

-- the mode of a field of MPP, which keeps the old mode if the field is no mode
unfoldable pub mode_kept : Mode → ℕ → Mode
mode_kept old field = unwrap_or (mode_of field) old

-- the register at an address, if there is one that isn't of physical memory protection
unfoldable pub register_at : ℕ → Option Register
register_at addr =
    if addr == 0x300 then Some Mstatus
    else (if addr == 0x301 then Some Misa
    else (if addr == 0x304 then Some Mie
    else (if addr == 0x305 then Some Mtvec
    else (if addr == 0x340 then Some Mscratch
    else (if addr == 0x341 then Some Mepc
    else (if addr == 0x342 then Some Mcause
    else (if addr == 0x343 then Some Mtval
    else (if addr == 0x344 then Some Mip
    else (if addr == 0xB00 then Some Mcycle
    else (if addr == 0xB80 then Some Mcycleh
    else (if addr == 0xB02 then Some Minstret
    else (if addr == 0xB82 then Some Minstreth
    else (if is_zero addr then Some Zero
    else None)))))))))))))

-- the value of a register, while the interrupt lines have these levels
abbrev pub value_of : CsrState → Lines → Register → ℕ
value_of state lines Mstatus = status_word state.mstatus
value_of state lines Misa = 0x40101100
value_of state lines Mie = lines_word state.mie
value_of state lines Mtvec = state.mtvec
value_of state lines Mscratch = state.mscratch
value_of state lines Mepc = state.mepc
value_of state lines Mcause = state.mcause
value_of state lines Mtval = state.mtval
value_of state lines Mip = lines_word lines
value_of state lines Mcycle = state.mcycle % 2 ^ 32
value_of state lines Mcycleh = state.mcycle / 2 ^ 32
value_of state lines Minstret = state.minstret % 2 ^ 32
value_of state lines Minstreth = state.minstret / 2 ^ 32
value_of state lines Zero = 0

-- the state after a write to a register
abbrev pub with_value : CsrState → Register → ℕ → CsrState
with_value state Mstatus word = record state { mstatus = with_status state.mstatus word }
with_value state Misa word = state
with_value state Mie word = record state { mie = word_lines word }
with_value state Mtvec word = record state { mtvec = aligned word + word % 2 }
with_value state Mscratch word = record state { mscratch = word }
with_value state Mepc word = record state { mepc = aligned word }
with_value state Mcause word = record state { mcause = word }
with_value state Mtval word = record state { mtval = word }
with_value state Mip word = state
with_value state Mcycle word = record state { mcycle = with_low state.mcycle word }
with_value state Mcycleh word = record state { mcycle = with_high state.mcycle word }
with_value state Minstret word = record state { minstret = with_low state.minstret word }
with_value state Minstreth word = record state { minstret = with_high state.minstret word }
with_value state Zero word = state

-- the value at an address, and the state after a write there, by the register at the address
abbrev pub value_at : CsrState → Lines → ℕ → Option Register → Option ℕ
value_at state lines addr (Some register) = Some (value_of state lines register)
value_at state lines addr None = protection.read_register state.pmp addr

abbrev pub with_value_at : CsrState → ℕ → ℕ → Option Register → Option CsrState
with_value_at state addr word (Some register) = Some (with_value state register word)
with_value_at state addr word None =
    option_map (λ pmp. record state { pmp = pmp }) (protection.write_register state.pmp addr word)

-- whether an instruction that wrote the register at an address, if any, wrote a half of a counter, whose low
-- half is at another
abbrev pub wrote_half : ℕ → Option ℕ → Bool
wrote_half low wrote = option_map_or (λ addr. (addr == low) || (addr == low + 0x80)) wrote false
