-- Not to audit: the laws `meaning_inverts` and `one_meaning` say all of `means`: it is what a word means by
-- `Means`.
-- The kind that a word means: of the operation whose codes it has, with the fields at their places.
use Rattle.std.specs.Prelude.{ℕ, ◌/◌, ◌%◌, ◌^◌, ◌==◌, ◌&&◌, nat_lt, Bool, if◌then◌else◌, List, [], ◌∷◌, Option, Some, None}
use Rattle.rv_isa.specs.Fields.{kind_of}
use Rattle.rv_isa.specs.Support.Codes.{read}
use Rattle.rv_isa.specs.Support.Kinds.{operations}
use Rattle.rv_isa.specs.Table.{row, Encoding, R, Amount, I, Number, S, B, U, J, Whole}
use Rattle.rv_isa.specs.declared.kind.Kind.{Kind}
use Rattle.rv_isa.specs.declared.op.Operation.{Operation}

-- whether a word has these codes in its opcode and funct3
abbrev pub has_two : ℕ → ℕ → ℕ → Bool
has_two w opcode funct3 = (w % 2 ^ 7 == opcode) && (w / 2 ^ 12 % 2 ^ 3 == funct3)

-- whether a word has the codes of an encoding
abbrev pub has_codes : ℕ → Encoding → Bool
has_codes w (R opcode funct3 funct7 _) = has_two w opcode funct3 && (w / 2 ^ 25 == funct7)
has_codes w (Amount opcode funct3 funct7 _) = has_two w opcode funct3 && (w / 2 ^ 25 == funct7)
has_codes w (I opcode funct3 _) = has_two w opcode funct3
has_codes w (Number opcode funct3 _) = has_two w opcode funct3
has_codes w (S opcode funct3 _) = has_two w opcode funct3
has_codes w (B opcode funct3 _) = has_two w opcode funct3
has_codes w (U opcode _) = w % 2 ^ 7 == opcode
has_codes w (J opcode _) = w % 2 ^ 7 == opcode
has_codes w (Whole word _) = w == word

-- the first of these operations whose codes a word has
abbrev pub first_in : ℕ → List Operation → Option Operation
first_in w [] = None
first_in w (x ∷ xs) = if has_codes w (row x).1 then Some x else first_in w xs

-- the kind of an operation with the fields of a word
abbrev pub kind_with : ℕ → Option Operation → Option Kind
kind_with w (Some x) = Some (kind_of (read x w))
kind_with w None = None

unfoldable pub means : ℕ → Option Kind
means w = if nat_lt w (2 ^ 32) then kind_with w (first_in w operations) else None
