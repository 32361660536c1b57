-- To audit: public contracts cite this.
-- An instruction by its fields: its kind, its word and the ranges of its fields are those of its row.
use Rattle.std.specs.Prelude.{ℕ, ◌+◌, ◌*◌, ◌^◌, ◌<◌, ℤ, pos, fold}
pub use Rattle.rv_isa.specs.Number.{to_word}
use Rattle.rv_isa.specs.Formats.{in_format}
use Rattle.rv_isa.specs.Table.{row}
use Rattle.rv_isa.specs.declared.fields.Fields.{Fields}
use Rattle.rv_isa.specs.declared.kind.Kind.{Kind}
use Rattle.rv_isa.specs.declared.op.Operation.{Operation}

-- the kind that an instruction with these fields is
unfoldable pub kind_of : Fields → Kind
kind_of f = (in_format (row f.operation).1 f).kind

-- the word of an instruction with these fields: its parts side by side
abbrev pub encoded : Fields → ℕ
encoded f = fold (λ above part. above * 2 ^ part.1 + part.0) 0 (in_format (row f.operation).1 f).parts

-- every field fits its place: a register is one of 32, and the immediate is one that the format has
abbrev pub AreInRange : Fields → Type 0
AreInRange f = (f.rd < 32) × (f.rs1 < 32) × (f.rs2 < 32) × (in_format (row f.operation).1 f).HasImmediate

-- an operation with these fields
abbrev pub with_fields : Operation → ℕ → ℕ → ℕ → ℤ → Fields
with_fields op rd rs1 rs2 imm = record { operation = op; rd = rd; rs1 = rs1; rs2 = rs2; imm = imm }

-- the kind of an operation, with zeros in all fields
unfoldable pub zeroed : Operation → Kind
zeroed operation = kind_of (with_fields operation 0 0 0 (pos 0))
