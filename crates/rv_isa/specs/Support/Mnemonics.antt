-- Not to audit: the law `OneMnemonic` of specs/Laws says what `named` is.
-- The operation with a mnemonic.
use Rattle.std.specs.Prelude.{ℕ, List, [], ◌∷◌, Option, Some, None, if◌then◌else◌}
use Rattle.std.specs.Str.{bytes_eq}
use Rattle.rv_isa.specs.Support.Kinds.{operations}
use Rattle.rv_isa.specs.Table.{mnemonic}
use Rattle.rv_isa.specs.declared.op.Operation.{Operation}
pub use Rattle.rv_isa.specs.Fields.{with_fields}
unfoldable pub use Rattle.rv_isa.specs.Fields.{zeroed}

-- the first of these operations with a mnemonic
abbrev pub first_named : List ℕ → List Operation → Option Operation
first_named text [] = None
first_named text (op ∷ ops) = if bytes_eq (mnemonic op) text then Some op else first_named text ops

-- the operation with a mnemonic
abbrev pub named : List ℕ → Option Operation
named text = first_named text operations
