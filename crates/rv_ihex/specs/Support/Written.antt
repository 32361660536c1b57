-- The lines that the code writes.
-- Private contracts cite this; public ones say what is read of those lines.
use Rattle.std.specs.Prelude.{ℕ, zero, suc, ◌+◌, ◌-◌, ◌/◌, ◌%◌, ◌==◌, List, [], ◌∷◌, ◌++◌, take, drop, length, if◌then◌else◌}
use Rattle.std.specs.List.{flat_map, sum}
use Rattle.rv_base.specs.Digits.{hex}

abbrev pub digits : List ℕ → List ℕ
digits = flat_map (hex 2)

-- the bytes of a record without its checksum
abbrev pub fields : ℕ → ℕ → List ℕ → List ℕ
fields kind offset content = length content ∷ offset / 256 ∷ offset % 256 ∷ kind ∷ content

-- bytes with a checksum
abbrev pub with_sum : List ℕ → List ℕ
with_sum bs = bs ++ (256 - sum bs % 256) % 256 ∷ []

-- the line of a record
unfoldable pub line_of : ℕ → ℕ → List ℕ → List ℕ
line_of kind offset content = 58 ∷ digits (with_sum (fields kind offset content))

abbrev pub end_line : List ℕ
end_line = line_of 1 0 []

-- the line for the upper half of an address
abbrev pub upper_line : ℕ → List ℕ
upper_line at = line_of 4 0 (at / 65536 / 256 ∷ at / 65536 % 256 ∷ [])

-- before bytes at a multiple of 64 KiB
abbrev pub upper_lines : ℕ → List (List ℕ)
upper_lines at = if at % 65536 == 0 then upper_line at ∷ [] else []

-- the lines of bytes from an address on, in that many records at most
unfoldable pub lines_from : ℕ → ℕ → List ℕ → List (List ℕ)
lines_from zero at bs = end_line ∷ []
lines_from (suc most) at bs =
    if length bs == 0 then end_line ∷ []
    else upper_lines at ++ line_of 0 (at % 65536) (take 16 bs) ∷ lines_from most (at + 16) (drop 16 bs)

-- lines with their ends
abbrev pub text_of : List (List ℕ) → List ℕ
text_of = flat_map (λ l. l ++ 10 ∷ [])
