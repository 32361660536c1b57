-- Control registers by their words.
use Rattle.std.proofs.lemmas.Bool.Decides.{nat_tests}
use Rattle.std.proofs.Common.{rules, ◌≡◌, ◌∙◌, ℕ, ◌≤◌, ◌==◌, Bool, true, false, refl, sym, ap, arith}
use Rattle.std.specs.Prelude.{if◌then◌else◌, unwrap_or, Option, Some}
use Rattle.rv_isa.specs.Number.{flag, truth}
use Rattle.rv_isa.specs.Names.{csr_names}
use Rattle.rv_pmp.specs.Mode.{is_machine}
use Rattle.rv_pmp.specs.Pmp.{read_register}
use Rattle.rv_pmp.specs.declared.mode.Mode.{Mode}
use Rattle.rv_pmp.specs.declared.mode.Mode.TheVariants.{User, Machine}
use Rattle.rv_csr.specs.Registers.{number_of, read, row_at, status_word, table}
use Rattle.rv_csr.specs.declared.mstatus.Mstatus.{Mstatus}
use Rattle.rv_board.specs.BoardState.{BoardState, csr_of}

module _ (b : BoardState) where
  mtvec_word : csr_of b 773 ≡ Some b.machine.csrs.mtvec
  unfolding read read_register row_at table number_of csr_names
  mtvec_word = refl

  pub mstatus_word : csr_of b 768 ≡ Some (status_word b.machine.csrs.mstatus)
  unfolding read read_register row_at table number_of csr_names
  mstatus_word = refl

  pub mtvec_is : (r : ℕ) → r ≡ unwrap_or (csr_of b 773) 0 → r ≡ b.machine.csrs.mtvec
  mtvec_is r e = e ∙ ap (λ (w : Option ℕ). unwrap_or w 0) mtvec_word

  pub mstatus_is : (r : ℕ) → r ≡ unwrap_or (csr_of b 768) 0 → r ≡ status_word b.machine.csrs.mstatus
  mstatus_is r e = e ∙ ap (λ (w : Option ℕ). unwrap_or w 0) mstatus_word

pub most : (b : Bool) → truth b ≤ 1
most b = search (rules, arith, nat_tests)

pub is_one : (b : Bool) → (truth b == 1) ≡ b
is_one b = search (rules, arith, nat_tests)

module _ (s : Mstatus) where
  mprv_bit : flag (status_word s) 17 ≡ s.mprv
  unfolding status_word
  mprv_bit = search (rules, arith, nat_tests, most, is_one)

  mpp_bit : flag (status_word s) 11 ≡ is_machine s.mpp
  unfolding status_word
  mpp_bit = search (rules, arith, nat_tests, most)

  module _ (mode : Mode) (w : ℕ) (is : w ≡ status_word s) where
    abbrev mode_of : Bool → Mode → Mode
    mode_of mprv mpp = if mprv then mpp else mode

    pub own_mode : flag w 17 ≡ false → mode ≡ mode_of s.mprv s.mpp
    own_mode e = grind (arith, mprv_bit)

    pub machine_mode : flag w 17 ≡ true → flag w 11 ≡ true → Machine ≡ mode_of s.mprv s.mpp
    machine_mode e f = search (rules, arith, nat_tests, mprv_bit, mpp_bit)

    pub user_mode : flag w 17 ≡ true → flag w 11 ≡ false → User ≡ mode_of s.mprv s.mpp
    user_mode e f = grind (arith, mprv_bit, mpp_bit)
