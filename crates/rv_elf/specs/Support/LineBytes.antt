-- The bytes that the code writes for a line table.
-- Private contracts cite this; public ones say what is read of those bytes.
use Rattle.std.specs.Prelude.{ℕ, zero, suc, ◌+◌, ◌-◌, ◌/◌, ◌%◌, ◌^◌, ◌<◌, List, [], ◌∷◌, ◌++◌, length, nat_lt, if◌then◌else◌}
use Rattle.rv_elf.specs.declared.lines.PlacedLine.{PlacedLine}
use Rattle.rv_elf.specs.Support.Written.{half, word}

-- a number in base 128 in that many bytes and one more at most, whose last byte is below a limit
unfoldable pub leb_bytes : ℕ → ℕ → ℕ → List ℕ
leb_bytes zero limit n = n ∷ []
leb_bytes (suc most) limit n =
    if nat_lt n limit then n ∷ [] else (n % 128 + 128) ∷ leb_bytes most limit (n / 128)

-- a number from 0 to 2 ^ 32 - 1 as a signed one
abbrev pub line_step : ℕ → List ℕ
line_step n = leb_bytes 4 64 n

-- DW_LNE_set_address
abbrev pub set_address : ℕ → List ℕ
set_address address = 0 ∷ 5 ∷ 2 ∷ word address

-- a row after one of another line
abbrev pub row_bytes : ℕ → PlacedLine → List ℕ
row_bytes from l = set_address l.address ++ (3 ∷ (line_step (l.line - from) ++ 1 ∷ []))

-- rows after one of another line
abbrev pub rows_bytes : ℕ → List PlacedLine → List ℕ
rows_bytes from [] = []
rows_bytes from (l ∷ ls) = row_bytes from l ++ rows_bytes l.line ls

abbrev pub end_bytes : ℕ → List ℕ
end_bytes end = set_address end ++ 0 ∷ 1 ∷ 1 ∷ []

abbrev pub program_bytes : ℕ → List PlacedLine → List ℕ
program_bytes end ls = rows_bytes 1 ls ++ end_bytes end

-- the opcodes and the one file of a header whose numbers of operands are the standard's
abbrev pub header_bytes : List ℕ → List ℕ
header_bytes name = (1 ∷ 1 ∷ 1 ∷ 251 ∷ 14 ∷ 13 ∷ 0 ∷ 1 ∷ 1 ∷ 1 ∷ 1 ∷ 0 ∷ 0 ∷ 0 ∷ 1 ∷ 0 ∷ 0 ∷ 1 ∷ 0 ∷ [])
    ++ (name ++ 0 ∷ 0 ∷ 0 ∷ 0 ∷ 0 ∷ [])

-- a unit of a header and a program
abbrev pub unit_bytes : List ℕ → List ℕ → List ℕ
unit_bytes header program =
    word (6 + length header + length program) ++ (half 4 ++ (word (length header) ++ (header ++ program)))

-- a table
unfoldable pub table_bytes : List ℕ → ℕ → List PlacedLine → List ℕ
table_bytes name end ls = unit_bytes (header_bytes name) (program_bytes end ls)

-- the numbers of lines fit
abbrev pub AreSmall : List PlacedLine → Type 0
AreSmall [] = Unit
AreSmall (l ∷ ls) = (l.line < 2 ^ 32) × (l.address < 2 ^ 32) × AreSmall ls
