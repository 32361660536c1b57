-- Not to audit: rows of tests alone cite this.
-- What the rows of src/values.rt and src/words.rt say of the definitions of instructions.
use Rattle.std.specs.Prelude.{ℕ, ℤ, Bool, ◌==◌, ◌&&◌, ◌++◌, List, take, replicate, slice_index}
use Rattle.std.specs.Bool.{beq}
use Rattle.std.specs.Str.{bytes_eq}
use Rattle.rv_isa.specs.declared.op.AluOp.{AluOp}
use Rattle.rv_isa.specs.declared.op.Cond.{Cond}
use Rattle.rv_isa.specs.declared.op.Operation.{Operation}
use Rattle.rv_isa.specs.declared.fields.Fields.{Fields}
use Rattle.rv_isa.specs.Alu.{alu_value, is_taken}
use Rattle.rv_isa.specs.Fields.{kind_of, with_fields}
use Rattle.rv_isa.specs.Word.{encoded}
use Rattle.rv_isa.specs.Text.{operands}
use Rattle.rv_isa.specs.Table.{mnemonic}

-- an operation makes the third word of the first two
abbrev pub is_value : AluOp × ℕ × ℕ × ℕ → Bool
is_value row = alu_value row.0 row.1 row.2 == row.3

-- a condition holds of two words, or doesn't
abbrev pub is_condition : Cond × ℕ × ℕ × Bool → Bool
is_condition row = beq (is_taken row.0 row.1 row.2) row.3

-- the fields of a row
abbrev pub row_fields : Operation × List ℕ × ℤ × ℕ × List ℕ → Fields
row_fields row = with_fields row.0 (slice_index row.1 0) (slice_index row.1 1) (slice_index row.1 2) row.2

-- a text, filled up with blanks to 19 bytes
abbrev pub filled : List ℕ → List ℕ
filled text = take 19 (text ++ replicate 19 32)

-- fields have a word, and their kind a text
abbrev pub is_word : Operation × List ℕ × ℤ × ℕ × List ℕ → Bool
is_word row =
    (encoded (row_fields row) == row.3)
    && bytes_eq (filled (mnemonic row.0 ++ operands (kind_of (row_fields row)))) row.4
