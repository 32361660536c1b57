-- The privilege modes. RISC-V Privileged Architecture 20211203, section 1.2.
-- To audit: public contracts cite this.
use Rattle.std.specs.Prelude.{ℕ, Bool, true, false, if◌then◌else◌}
use Rattle.rv_pmp.specs.declared.mode.Mode.{Mode}
use Rattle.rv_pmp.specs.declared.mode.Mode.TheVariants.{User, Machine}

abbrev pub is_machine : Mode → Bool
is_machine User = false
is_machine Machine = true

-- the level of a mode, as MPP and bits 9 and 8 of the address of a control register hold it
abbrev pub level : Mode → ℕ
level mode = if is_machine mode then 3 else 0
