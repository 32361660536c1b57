-- The state of the control registers. RISC-V Privileged Architecture 20211203, section 3.1.
-- To audit: public contracts cite this.
use Rattle.std.specs.Prelude.{ℕ, false, replicate}
use Rattle.rv_isa.specs.declared.Lines.{Lines}
use Rattle.rv_pmp.specs.Pmp.{PmpState, off_entry}
use Rattle.rv_pmp.specs.declared.mode.Mode.TheVariants.{User}
use Rattle.rv_csr.specs.declared.mstatus.Mstatus.{Mstatus}

-- mstatus; mie, as the interrupts that it enables (the field mie of mstatus is another, the bit MIE); the registers of
-- traps; the counters, of 64 bits; physical memory protection
pub record CsrState : Type 0 where
  pub mstatus : Mstatus
  pub mie : Lines
  pub mtvec : ℕ
  pub mscratch : ℕ
  pub mepc : ℕ
  pub mcause : ℕ
  pub mtval : ℕ
  pub mcycle : ℕ
  pub minstret : ℕ
  pub pmp : PmpState

-- the state after a reset: all 0
abbrev pub csrs_at_reset : CsrState
csrs_at_reset = record {
  mstatus = record { mie = false; mpie = false; mpp = User; mprv = false; tw = false };
  mie = record { software = false; timer = false; external = false };
  mtvec = 0;
  mscratch = 0;
  mepc = 0;
  mcause = 0;
  mtval = 0;
  mcycle = 0;
  minstret = 0;
  pmp = record { entries = replicate 16 off_entry };
}
