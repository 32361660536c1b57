-- To audit: public contracts cite this.
-- Registers of devices.
use Rattle.std.specs.Prelude.{ℕ}

-- a register of a device: the word that a load returns, the device after a load, and the device after a
-- store of a word
pub record Register (D : Type 0) : Type 0 where
  pub word : D → ℕ
  pub loaded : D → D
  pub stored : D → ℕ → D

-- a register that a load leaves as it is
abbrev pub register : {D : Type 0} → (D → ℕ) → (D → ℕ → D) → Register D
register word stored = record { word = word; loaded = λ device. device; stored = stored }
