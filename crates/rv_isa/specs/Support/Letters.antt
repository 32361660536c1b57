-- Not to audit: private contracts alone cite this.
-- The operations and the registers by the first letters of their names.
use Rattle.std.specs.Prelude.{ℕ, Bool, false, not, List, [], ◌∷◌, filter, ◌==◌}
use Rattle.rv_isa.specs.declared.op.Operation.{Operation}
use Rattle.rv_isa.specs.Names.{register_names}
use Rattle.rv_isa.specs.Table.{mnemonic}
use Rattle.rv_isa.specs.Support.Kinds.{operations}

-- whether a text begins with a letter
abbrev pub begins : ℕ → List ℕ → Bool
begins letter [] = false
begins letter (b ∷ bs) = b == letter

-- the operations whose mnemonics begin with a letter
unfoldable pub beginning_with : ℕ → List Operation
beginning_with letter = filter (λ op. begins letter (mnemonic op)) operations

-- the names of registers that begin with `x`, and the others
unfoldable pub numbered_names : List (List ℕ × ℕ)
numbered_names = filter (λ row. begins 120 row.0) register_names

unfoldable pub conventional_names : List (List ℕ × ℕ)
conventional_names = filter (λ row. not (begins 120 row.0)) register_names
