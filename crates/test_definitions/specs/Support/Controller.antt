-- Not to audit: rows of tests alone cite this.
-- What the tables of src/controller.rt say of the definition of the interrupt controller.
use Rattle.std.specs.Prelude.{ℕ, Bool, true, ◌==◌, ◌&&◌, List, [], ◌∷◌}
use Rattle.std.specs.Bool.{beq}
use Rattle.rv_plic.specs.Gateways.{PlicState, forwarded, with_line}
use Rattle.rv_plic.specs.Plic.{plic_register, is_notified}
use Rattle.test_definitions.specs.declared.controller.Act.{Act}
use Rattle.test_definitions.specs.declared.controller.Act.TheVariants.{Line, Tick, Store, Load, External}

-- the controller after an act
abbrev pub after : PlicState → Act → ℕ → ℕ → PlicState
after p Line source level = with_line p source (level == 1)
after p Tick _ _ = forwarded p
after p Store off word = (plic_register off).stored p word
after p Load off word = (plic_register off).loaded p
after p External _ _ = p

-- whether it shows what is asked of it
abbrev pub shows : PlicState → Act → ℕ → ℕ → Bool
shows p Load off word = (plic_register off).word p == word
shows p External _ level = beq (is_notified p) (level == 1)
shows p act _ _ = true

-- whether it does so in each row, one after another
abbrev pub shows_all : PlicState → List (Act × ℕ × ℕ) → Bool
shows_all p [] = true
shows_all p (row ∷ rows) = shows p row.0 row.1 row.2 && shows_all (after p row.0 row.1 row.2) rows
