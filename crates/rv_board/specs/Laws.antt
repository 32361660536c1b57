-- Laws: what no event changes. RISC-V Privileged Architecture 20211203, section 3.7.1.
-- To audit: public contracts cite this.
use Rattle.std.specs.Prelude.{◌≡◌, ℕ, ◌+◌, true}
use Rattle.rv_pmp.specs.Pmp.{PmpState, entry_at, is_locked_tor}

-- each locked entry is as it was, its configuration and its address; and so is the address at which the range
-- of a locked entry begins, which is that of the entry before it
pub record KeepsLocked (old new : PmpState) : Type 0 where
  pub locked : (n : ℕ) → (entry_at old n).locked ≡ true → entry_at new n ≡ entry_at old n
  pub below : (n : ℕ) → is_locked_tor old (n + 1) ≡ true → (entry_at new n).address ≡ (entry_at old n).address
