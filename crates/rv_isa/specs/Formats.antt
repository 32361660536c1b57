-- To audit: public contracts cite this.
-- The formats of instructions: of each, the parts of its words, the range of its immediate, and the kind that it
-- makes. RISC-V Unprivileged ISA 20191213: the formats are those of section 2.2, and the places of the immediates
-- those of section 2.3.
use Rattle.std.specs.Prelude.{ℕ, ◌+◌, ◌-◌, ◌/◌, ◌%◌, ◌^◌, ◌<◌, ℤ, List, [], ◌∷◌}
use Rattle.rv_isa.specs.Number.{to_word, IsWithin, IsDistance}
use Rattle.rv_isa.specs.Table.{Encoding, R, Amount, I, Number, S, B, U, J, Whole}
use Rattle.rv_isa.specs.declared.fields.Fields.{Fields}
use Rattle.rv_isa.specs.declared.kind.Kind.{Kind}

-- the bits `high` to `low` of an immediate, and how many they are, as `imm[11:5]` in section 2.3
abbrev pub bits : ℤ → ℕ → ℕ → ℕ × ℕ
bits imm high low = (to_word imm / 2 ^ low % 2 ^ (high - low + 1), high - low + 1)

-- the parts of a word, the highest first, each with the number of its bits; whether the format has the immediate;
-- and the kind of instruction
pub record Formatted : Type 1 where
  pub parts : List (ℕ × ℕ)
  pub HasImmediate : Type 0
  pub kind : Kind

-- what an encoding makes of the fields of an instruction. The immediate of U is the upper twenty bits alone, and
-- the distance of a jump is even. The base of an access is rs1, and the source of a store is rs2. The kind keeps
-- an immediate from 0 on as a word
abbrev pub in_format : Encoding → Fields → Formatted
in_format (R opcode funct3 funct7 kind) f = record {
  parts = (funct7, 7) ∷ (f.rs2, 5) ∷ (f.rs1, 5) ∷ (funct3, 3) ∷ (f.rd, 5) ∷ (opcode, 7) ∷ [];
  HasImmediate = Unit {0};
  kind = kind f.rd f.rs1 f.rs2;
}
in_format (Amount opcode funct3 funct7 kind) f = record {
  parts = (funct7, 7) ∷ bits f.imm 4 0 ∷ (f.rs1, 5) ∷ (funct3, 3) ∷ (f.rd, 5) ∷ (opcode, 7) ∷ [];
  HasImmediate = to_word f.imm < 2 ^ 5;
  kind = kind f.rd f.rs1 (to_word f.imm);
}
in_format (I opcode funct3 kind) f = record {
  parts = bits f.imm 11 0 ∷ (f.rs1, 5) ∷ (funct3, 3) ∷ (f.rd, 5) ∷ (opcode, 7) ∷ [];
  HasImmediate = IsWithin (2 ^ 11) f.imm;
  kind = kind f.rd f.rs1 f.imm;
}
in_format (Number opcode funct3 kind) f = record {
  parts = bits f.imm 11 0 ∷ (f.rs1, 5) ∷ (funct3, 3) ∷ (f.rd, 5) ∷ (opcode, 7) ∷ [];
  HasImmediate = to_word f.imm < 2 ^ 12;
  kind = kind f.rd f.rs1 (to_word f.imm);
}
in_format (S opcode funct3 kind) f = record {
  parts = bits f.imm 11 5 ∷ (f.rs2, 5) ∷ (f.rs1, 5) ∷ (funct3, 3) ∷ bits f.imm 4 0 ∷ (opcode, 7) ∷ [];
  HasImmediate = IsWithin (2 ^ 11) f.imm;
  kind = kind f.rs2 f.rs1 f.imm;
}
in_format (B opcode funct3 kind) f = record {
  parts = bits f.imm 12 12 ∷ bits f.imm 10 5 ∷ (f.rs2, 5) ∷ (f.rs1, 5) ∷ (funct3, 3)
      ∷ bits f.imm 4 1 ∷ bits f.imm 11 11 ∷ (opcode, 7) ∷ [];
  HasImmediate = IsDistance (2 ^ 12) f.imm;
  kind = kind f.rs1 f.rs2 f.imm;
}
in_format (U opcode kind) f = record {
  parts = bits f.imm 19 0 ∷ (f.rd, 5) ∷ (opcode, 7) ∷ [];
  HasImmediate = to_word f.imm < 2 ^ 20;
  kind = kind f.rd (to_word f.imm);
}
in_format (J opcode kind) f = record {
  parts = bits f.imm 20 20 ∷ bits f.imm 10 1 ∷ bits f.imm 11 11 ∷ bits f.imm 19 12 ∷ (f.rd, 5) ∷ (opcode, 7) ∷ [];
  HasImmediate = IsDistance (2 ^ 20) f.imm;
  kind = kind f.rd f.imm;
}
in_format (Whole word kind) f = record {
  parts = (word, 32) ∷ [];
  HasImmediate = Unit {0};
  kind = kind;
}
