-- Not to audit: private contracts alone cite this, and proofs.
-- The codes of an encoding, and the places of codes and fields in a word, as the code computes them.
use Rattle.std.specs.Prelude.{◌≡◌, ◌⊎◌, ℕ, ℤ, pos, negsuc, nat_lt, if◌then◌else◌, ◌+◌, ◌-◌, ◌*◌, ◌/◌, ◌%◌, ◌^◌, ◌<◌, Option, Some, None}
use Rattle.rv_isa.specs.Fields.{with_fields}
use Rattle.rv_isa.specs.Number.{to_word}
use Rattle.rv_isa.specs.Table.{row, Encoding, R, Amount, I, Number, S, B, U, J, Whole}
use Rattle.rv_isa.specs.declared.fields.Fields.{Fields}
use Rattle.rv_isa.specs.declared.format.Format.{Format}
use Rattle.rv_isa.specs.declared.format.Format.TheVariants as format
use Rattle.rv_isa.specs.declared.format.Codes.{Codes}
use Rattle.rv_isa.specs.declared.op.Operation.{Operation}

-- ---- an encoding by its codes

-- a format with these codes
abbrev pub codes : Format → ℕ → ℕ → ℕ → Codes
codes format opcode funct3 funct7 = record { format = format; opcode = opcode; funct3 = funct3; funct7 = funct7 }

abbrev pub codes_of : Encoding → Codes
codes_of (R opcode funct3 funct7 _) = codes format.R opcode funct3 funct7
codes_of (Amount opcode funct3 funct7 _) = codes format.Amount opcode funct3 funct7
codes_of (I opcode funct3 _) = codes format.I opcode funct3 0
codes_of (Number opcode funct3 _) = codes format.Number opcode funct3 0
codes_of (S opcode funct3 _) = codes format.S opcode funct3 0
codes_of (B opcode funct3 _) = codes format.B opcode funct3 0
codes_of (U opcode _) = codes format.U opcode 0 0
codes_of (J opcode _) = codes format.J opcode 0 0
codes_of (Whole word _) = codes format.Whole word 0 0

-- the codes fit their places; a whole word has none
abbrev pub CodesFit : Codes → Type 0
CodesFit c =
    (((c.format ≡ format.Whole) × (c.opcode < 2 ^ 32)) ⊎ (c.opcode < 2 ^ 7)) × (c.funct3 < 2 ^ 3) × (c.funct7 < 2 ^ 7)

-- ---- the word of codes and fields

-- six places, from the lowest
abbrev pub six : ℕ → ℕ → ℕ → ℕ → ℕ → ℕ → ℕ
six opcode low funct3 rs1 rs2 high =
    opcode + low * 2 ^ 7 + funct3 * 2 ^ 12 + rs1 * 2 ^ 15 + rs2 * 2 ^ 20 + high * 2 ^ 25

abbrev place : Format → Codes → Fields → ℕ → ℕ
place format.R c f u = six c.opcode f.rd c.funct3 f.rs1 f.rs2 c.funct7
place format.Amount c f u = six c.opcode f.rd c.funct3 f.rs1 (u % 2 ^ 5) c.funct7
place format.S c f u = six c.opcode (u % 2 ^ 5) c.funct3 f.rs1 f.rs2 (u / 2 ^ 5 % 2 ^ 7)
place format.B c f u =
    six c.opcode (u / 2 ^ 11 % 2 + u / 2 % 2 ^ 4 * 2) c.funct3 f.rs1 f.rs2
    (u / 2 ^ 5 % 2 ^ 6 + u / 2 ^ 12 % 2 * 2 ^ 6)
place format.U c f u = c.opcode + f.rd * 2 ^ 7 + u % 2 ^ 20 * 2 ^ 12
place format.J c f u =
    c.opcode + f.rd * 2 ^ 7 + u / 2 ^ 12 % 2 ^ 8 * 2 ^ 12 + u / 2 ^ 11 % 2 * 2 ^ 20 + u / 2 % 2 ^ 10 * 2 ^ 21
    + u / 2 ^ 20 % 2 * 2 ^ 31
place format.Whole c f u = c.opcode
place _ c f u = c.opcode + f.rd * 2 ^ 7 + c.funct3 * 2 ^ 12 + f.rs1 * 2 ^ 15 + u % 2 ^ 12 * 2 ^ 20

abbrev pub placed : Codes → Fields → ℕ
placed c f = place c.format c f (to_word f.imm)

-- ---- the codes and the fields of a word

abbrev has_codes : ℕ → Format → Codes → Type 0
has_codes w format.R c = (w % 2 ^ 7 ≡ c.opcode) × (w / 2 ^ 12 % 2 ^ 3 ≡ c.funct3) × (w / 2 ^ 25 ≡ c.funct7)
has_codes w format.Amount c = (w % 2 ^ 7 ≡ c.opcode) × (w / 2 ^ 12 % 2 ^ 3 ≡ c.funct3) × (w / 2 ^ 25 ≡ c.funct7)
has_codes w format.U c = w % 2 ^ 7 ≡ c.opcode
has_codes w format.J c = w % 2 ^ 7 ≡ c.opcode
has_codes w format.Whole c = w ≡ c.opcode
has_codes w _ c = (w % 2 ^ 7 ≡ c.opcode) × (w / 2 ^ 12 % 2 ^ 3 ≡ c.funct3)

-- a word has these codes
abbrev pub HasCodes : ℕ → Codes → Type 0
HasCodes w c = has_codes w c.format c

-- the operation whose codes the word has, or none
abbrev pub HasOperation : ℕ → Option Operation → Type 0
HasOperation w (Some x) = HasCodes w (codes_of (row x).1)
HasOperation w None = (x : Operation) → HasCodes w (codes_of (row x).1) → ⊥

-- bits in two's complement, where the sign bit has the value -`sign`
abbrev pub extended : ℕ → ℕ → ℤ
extended sign bits = if nat_lt bits sign then pos bits else negsuc (2 * sign - 1 - bits)

-- the immediate of a word in a format
abbrev pub immediate : Format → ℕ → ℤ
immediate format.Amount w = pos (w / 2 ^ 20 % 2 ^ 5)
immediate format.I w = extended (2 ^ 11) (w / 2 ^ 20)
immediate format.Number w = pos (w / 2 ^ 20)
immediate format.S w = extended (2 ^ 11) (w / 2 ^ 25 * 2 ^ 5 + w / 2 ^ 7 % 2 ^ 5)
immediate format.B w =
    extended (2 ^ 12) (w / 2 ^ 31 * 2 ^ 12 + w / 2 ^ 7 % 2 * 2 ^ 11 + w / 2 ^ 25 % 2 ^ 6 * 2 ^ 5
    + w / 2 ^ 8 % 2 ^ 4 * 2)
immediate format.U w = pos (w / 2 ^ 12)
immediate format.J w =
    extended (2 ^ 20) (w / 2 ^ 31 * 2 ^ 20 + w / 2 ^ 12 % 2 ^ 8 * 2 ^ 12 + w / 2 ^ 20 % 2 * 2 ^ 11
    + w / 2 ^ 21 % 2 ^ 10 * 2)
immediate _ w = pos 0

-- the fields of an operation in a word of a format
abbrev pub read_in : Format → Operation → ℕ → Fields
read_in format x w =
    with_fields x (w / 2 ^ 7 % 2 ^ 5) (w / 2 ^ 15 % 2 ^ 5) (w / 2 ^ 20 % 2 ^ 5) (immediate format w)

-- the fields of an operation in a word
abbrev pub read : Operation → ℕ → Fields
read x w = read_in (codes_of (row x).1).format x w

-- the fields that a format has; the others are 0
abbrev pub normal : Format → Fields → Fields
normal format.R f = with_fields f.operation f.rd f.rs1 f.rs2 (pos 0)
normal format.S f = with_fields f.operation 0 f.rs1 f.rs2 f.imm
normal format.B f = with_fields f.operation 0 f.rs1 f.rs2 f.imm
normal format.U f = with_fields f.operation f.rd 0 0 f.imm
normal format.J f = with_fields f.operation f.rd 0 0 f.imm
normal format.Whole f = with_fields f.operation 0 0 0 (pos 0)
normal _ f = with_fields f.operation f.rd f.rs1 0 f.imm
