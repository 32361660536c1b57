-- User mode may neither read nor write any control register.
use Rattle.std.proofs.Common.{rules, ◌≡◌, ℕ, true, Option, Some, None}
use Rattle.rv_isa.specs.declared.Lines.{Lines}
use Rattle.rv_pmp.specs.Pmp.{PmpState}
use Rattle.rv_pmp.specs.Pmp as protection
use Rattle.rv_pmp.specs.Support.Registers.{WritesOrRefuses}
use Rattle.rv_pmp.specs.declared.mode.Mode.{Mode}
use Rattle.rv_pmp.specs.declared.mode.Mode.TheVariants.{User}
use Rattle.rv_csr.specs.Support.RegisterCases.{register_at}
use Rattle.rv_csr.specs.Registers.{may_read, may_write, read}
use Rattle.rv_csr.proofs.Table.{read_by_cases}
use Rattle.rv_csr.specs.State.{CsrState}
use Rattle.rv_csr.specs.declared.register.Register.{Register}

pub no_register : {A : Type 0} (x : Option A) (addr : ℕ) (mode : Mode) (found : Option Register) (register : Register)
    → may_read addr mode ≡ true → mode ≡ User → found ≡ register_at addr → found ≡ Some register → x ≡ None
unfolding register_at
no_register x addr mode found register may user at is = search rules

pub no_load : (pmp : PmpState) (addr : ℕ) (mode : Mode) (result : Option ℕ)
    → may_read addr mode ≡ true → mode ≡ User → result ≡ protection.read_register pmp addr → result ≡ None
unfolding protection.read_register
no_load pmp addr mode result may user is = search rules

pub may_read-from_write : (addr : ℕ) (mode : Mode) → may_write addr mode ≡ true → may_read addr mode ≡ true
may_read-from_write addr mode h = search rules

pub no_store : (old : PmpState) (addr word : ℕ) (new : PmpState) (mode : Mode) (result : Option Unit)
    → may_write addr mode ≡ true → mode ≡ User → WritesOrRefuses (protection.write_register old addr word) old new result → result ≡ None
unfolding protection.write_register
no_store old addr word new mode result may user stores = search rules

-- by the definition of a read
pub nothing_read : (state : CsrState) (addr : ℕ) (lines : Lines) → read state addr User lines ≡ None
unfolding register_at protection.read_register
nothing_read state addr lines = search (rules, read_by_cases)
