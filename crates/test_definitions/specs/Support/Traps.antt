-- Not to audit: rows of tests alone cite this.
-- What the rows of src/traps.rt say of the definitions of traps and interrupts.
use Rattle.std.specs.Prelude.{ℕ, Bool, ◌==◌, ◌&&◌, List, slice_index, slice_index_or, unwrap_or, false}
use Rattle.rv_isa.specs.declared.Lines.{Lines}
use Rattle.rv_pmp.specs.declared.mode.Mode.{Mode}
use Rattle.rv_pmp.specs.declared.mode.Mode.TheVariants.{Machine}
use Rattle.rv_pmp.specs.Mode.{level}
use Rattle.rv_csr.specs.Registers.{write, status_word}
use Rattle.rv_csr.specs.State.{csrs_at_reset, CsrState}
use Rattle.rv_csr.specs.Traps.{entered, after_return, trap_pc, next_interrupt}

-- the control registers after machine mode wrote a word to a register that is there
abbrev pub with_word : CsrState → ℕ → ℕ → CsrState
with_word s addr word = unwrap_or (write s addr Machine word) s

-- the state inside of the handler of a row
abbrev pub inside : List ℕ × Mode × ℕ × ℕ × List ℕ × ℕ × Mode → CsrState
inside row =
    entered (with_word (with_word csrs_at_reset 0x300 (slice_index row.0 0)) 0x305 (slice_index row.0 1)) row.2 row.3 0 row.1

-- a trap sets mstatus, mepc and mcause, goes to its handler, and leads back
abbrev pub is_trap : List ℕ × Mode × ℕ × ℕ × List ℕ × ℕ × Mode → Bool
is_trap row =
    let s = inside row in
    (status_word s.mstatus == slice_index row.4 0) && (s.mepc == slice_index row.4 1) && (s.mcause == row.2)
    && (trap_pc s row.2 == slice_index row.4 2) && (status_word (after_return s).mstatus == row.5)
    && (level s.mstatus.mpp == level row.6)

-- the levels of lines, the software interrupt's first
abbrev pub lines_of : List Bool → Lines
lines_of levels = record {
  software = slice_index_or levels 0 false;
  timer = slice_index_or levels 1 false;
  external = slice_index_or levels 2 false;
}

-- the cause of the interrupt that is taken, or 0
abbrev pub is_interrupt : List ℕ × Mode × List Bool × ℕ → Bool
is_interrupt row =
    let s = with_word (with_word csrs_at_reset 0x300 (slice_index row.0 0)) 0x304 (slice_index row.0 1) in
    unwrap_or (next_interrupt s row.1 (lines_of row.2)) 0 == row.3
