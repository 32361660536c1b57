-- The table of the control registers: their addresses, the value of a read, the state after a write, and
-- which modes may do either.
-- RISC-V Privileged Architecture 20211203, section 2.1 for the addresses and 3.1 for the registers.
-- To audit: public contracts cite this.
use Rattle.std.specs.Prelude.{ℕ, ◌+◌, ◌*◌, ◌/◌, ◌%◌, ◌^◌, Bool, false, ◌==◌, ◌&&◌, ◌||◌, not, nat_le, if◌then◌else◌, List, [], ◌∷◌, ◌++◌, map, codes, find, unwrap_or, Option, Some, None}
use Rattle.std.specs.Option.{option_map, option_map_or, option_or}
use Rattle.rv_base.specs.Tables.{lookup}
use Rattle.rv_base.specs.Halves.{with_low, with_high}
use Rattle.rv_isa.specs.Names.{csr_names}
use Rattle.rv_isa.specs.Number.{flag, truth}
use Rattle.rv_isa.specs.declared.Lines.{Lines}
pub use Rattle.rv_pmp.specs.Mode.{level}
use Rattle.rv_pmp.specs.Pmp.{read_register, write_register}
use Rattle.rv_pmp.specs.declared.mode.Mode.{Mode}
use Rattle.rv_pmp.specs.declared.mode.Mode.TheVariants.{User, Machine}
use Rattle.rv_csr.specs.State.{CsrState}
use Rattle.rv_csr.specs.declared.mstatus.Mstatus.{Mstatus}

-- ---- the values

-- mstatus: MIE in bit 3, MPIE in bit 7, MPP in bits 12 and 11, MPRV in bit 17, TW in bit 21 (section 3.1.6)
unfoldable pub status_word : Mstatus → ℕ
status_word s =
    truth s.mie * 2 ^ 3 + truth s.mpie * 2 ^ 7 + level s.mpp * 2 ^ 11 + truth s.mprv * 2 ^ 17 + truth s.tw * 2 ^ 21

-- the mode with a level, if there is one
abbrev pub mode_of : ℕ → Option Mode
mode_of code = find (λ mode. code == level mode) (User ∷ Machine ∷ [])

-- mstatus after a write. MPP stays as it is where its field is the level of no mode (section 3.1.6)
unfoldable pub with_status : Mstatus → ℕ → Mstatus
with_status old word = record {
  mie = flag word 3;
  mpie = flag word 7;
  mpp = unwrap_or (mode_of (word / 2 ^ 11 % 4)) old.mpp;
  mprv = flag word 17;
  tw = flag word 21;
}

-- mie and mip: the software interrupt in bit 3, that of the timer in bit 7, the external one in bit 11 (section
-- 3.1.9)
unfoldable pub lines_word : Lines → ℕ
lines_word lines = truth lines.software * 2 ^ 3 + truth lines.timer * 2 ^ 7 + truth lines.external * 2 ^ 11

unfoldable pub word_lines : ℕ → Lines
word_lines word = record { software = flag word 3; timer = flag word 7; external = flag word 11 }

-- a word without its two lowest bits
abbrev pub aligned : ℕ → ℕ
aligned word = word / 4 * 4

-- ---- the table

-- a row: the name of a register, the word that a read gives while the interrupt lines have these levels, and the
-- state after a write of a word
pub record CsrRow : Type 0 where
  pub name : List ℕ
  pub value : CsrState → Lines → ℕ
  pub written : CsrState → ℕ → CsrState

abbrev pub csr_row : List ℕ → (CsrState → Lines → ℕ) → (CsrState → ℕ → CsrState) → CsrRow
csr_row name value written = record { name = name; value = value; written = written }

-- the registers, but for those of physical memory protection: misa (section 3.1.1), which says RV32I with M and user
-- mode; mstatus (section 3.1.6); mtvec, which has no bit 1 (section 3.1.7); mie and mip (section 3.1.9); the counters
-- (section 3.1.10); mscratch (section 3.1.13), mepc (section 3.1.14), mcause (section 3.1.15) and mtval (section
-- 3.1.16). The last line gives each name of a register a row that reads 0, and by which a write changes nothing. Of
-- two rows with one name the upper one counts, so it is for the registers that have no other: those that identify
-- the hart (sections 3.1.2, 3.1.3, 3.1.4 and 3.1.5), mcounteren and mcountinhibit (sections 3.1.11 and 3.1.12),
-- mconfigptr (section 3.1.17), menvcfg (section 3.1.18), and the other counters
unfoldable pub table : List CsrRow
table =
    csr_row (codes "mstatus") (λ s _. status_word s.mstatus) (λ s w. record s { mstatus = with_status s.mstatus w })
    ∷ csr_row (codes "misa") (λ s _. 0x40101100) (λ s w. s)
    ∷ csr_row (codes "mie") (λ s _. lines_word s.mie) (λ s w. record s { mie = word_lines w })
    ∷ csr_row (codes "mtvec") (λ s _. s.mtvec) (λ s w. record s { mtvec = aligned w + w % 2 })
    ∷ csr_row (codes "mscratch") (λ s _. s.mscratch) (λ s w. record s { mscratch = w })
    ∷ csr_row (codes "mepc") (λ s _. s.mepc) (λ s w. record s { mepc = aligned w })
    ∷ csr_row (codes "mcause") (λ s _. s.mcause) (λ s w. record s { mcause = w })
    ∷ csr_row (codes "mtval") (λ s _. s.mtval) (λ s w. record s { mtval = w })
    ∷ csr_row (codes "mip") (λ s lines. lines_word lines) (λ s w. s)
    ∷ csr_row (codes "mcycle") (λ s _. s.mcycle % 2 ^ 32) (λ s w. record s { mcycle = with_low s.mcycle w })
    ∷ csr_row (codes "mcycleh") (λ s _. s.mcycle / 2 ^ 32) (λ s w. record s { mcycle = with_high s.mcycle w })
    ∷ csr_row (codes "minstret") (λ s _. s.minstret % 2 ^ 32) (λ s w. record s { minstret = with_low s.minstret w })
    ∷ csr_row (codes "minstreth") (λ s _. s.minstret / 2 ^ 32) (λ s w. record s { minstret = with_high s.minstret w })
    ∷ map (λ named. csr_row named.0 (λ s _. 0) (λ s w. s)) csr_names

-- the number of the register with a name, if there is one
unfoldable pub number_of : List ℕ → Option ℕ
number_of name = lookup name csr_names

-- whether the register with a name is at an address
abbrev pub is_at : ℕ → List ℕ → Bool
is_at addr name = option_map_or (λ number. addr == number) (number_of name) false

-- the row of the register at an address: the first whose name is that of the register there
unfoldable pub row_at : ℕ → Option CsrRow
row_at addr = find (λ row. is_at addr row.name) table

-- ---- reads and writes

-- whether a mode may read at an address: bits 9 and 8 are the lowest level that may access it (section 2.1)
abbrev pub may_read : ℕ → Mode → Bool
may_read addr mode = nat_le (addr / 2 ^ 8 % 4) (level mode)

-- whether it may write there, too: if bits 11 and 10 are both 1, the register is read-only
abbrev pub may_write : ℕ → Mode → Bool
may_write addr mode = may_read addr mode && not (addr / 2 ^ 10 % 4 == 3)

-- the value of the register at an address while the interrupt lines have these levels, and the state after a write
-- to it; None if no register is there. Physical memory protection has the first word about an address
abbrev pub word_at : CsrState → ℕ → Lines → Option ℕ
word_at state addr lines =
    option_or (read_register state.pmp addr) (option_map (λ row. row.value state lines) (row_at addr))

abbrev pub written_at : CsrState → ℕ → ℕ → Option CsrState
written_at state addr word =
    option_or (option_map (λ pmp. record state { pmp = pmp }) (write_register state.pmp addr word))
    (option_map (λ row. row.written state word) (row_at addr))

-- the value that a mode reads at an address, and the state after its write there; None if no register is there, or
-- the mode may not do so
unfoldable pub read : CsrState → ℕ → Mode → Lines → Option ℕ
read state addr mode lines = if may_read addr mode then word_at state addr lines else None

unfoldable pub write : CsrState → ℕ → Mode → ℕ → Option CsrState
write state addr mode word = if may_write addr mode then written_at state addr word else None

-- ---- the counters

-- whether the register that an instruction wrote, if any, is a counter or its high half
abbrev pub wrote_half : List ℕ → Option ℕ → Bool
wrote_half name None = false
wrote_half name (Some addr) = is_at addr name || is_at addr (name ++ codes "h")

-- the state after a step is counted: mcycle grows in each, minstret if an instruction retired; but a counter
-- keeps what was written if the instruction wrote a half of it (section 3.1.10)
abbrev pub counted : CsrState → Bool → Option ℕ → CsrState
counted s retired wrote = record s {
  mcycle = if wrote_half (codes "mcycle") wrote then s.mcycle else (s.mcycle + 1) % 2 ^ 64;
  minstret =
      if not retired || wrote_half (codes "minstret") wrote then s.minstret else (s.minstret + 1) % 2 ^ 64;
}
