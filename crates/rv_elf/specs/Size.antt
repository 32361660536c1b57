-- How many bytes a file has: each part of it.
-- To audit: public contracts cite this.
use Rattle.std.specs.Prelude.{ℕ, ◌+◌, ◌-◌, ◌%◌, List, [], ◌∷◌, length, nat_lt, if◌then◌else◌}
use Rattle.rv_elf.specs.Symbols.{Symbol}
use Rattle.rv_elf.specs.declared.frames.Function.{Function}
use Rattle.rv_elf.specs.declared.lines.PlacedLine.{PlacedLine}
use Rattle.rv_elf.specs.declared.macros.Macro.{Macro}

-- a step from a line to one that follows it: 7 bits of a number in each byte, and one of these is its sign
abbrev pub step_size : ℕ → ℕ
step_size n =
    if nat_lt n 64 then 1
    else if nat_lt n 8192 then 2
    else if nat_lt n 1048576 then 3
    else if nat_lt n 134217728 then 4
    else 5

-- lines after one: an address, a step and an opcode each
abbrev pub rows_size : ℕ → List PlacedLine → ℕ
rows_size from [] = 0
rows_size from (l ∷ ls) = 9 + step_size (l.line - from) + rows_size l.line ls

-- the table of the lines of a source of this name
abbrev pub lines_size : List ℕ → List PlacedLine → ℕ
lines_size name lines = 44 + length name + rows_size 1 lines

-- symbols of these names: an entry, and the name with its null byte
abbrev pub symbols_size : List (List ℕ) → ℕ
symbols_size [] = 0
symbols_size (n ∷ ns) = 17 + length n + symbols_size ns

-- the table of the frames of functions: an entry each, whose instructions end with a multiple of 4 bytes
abbrev pub frames_size : List Function → ℕ
frames_size [] = 40
frames_size (f ∷ fs) =
    16 + (length f.instructions.items + (4 - length f.instructions.items % 4) % 4) + frames_size fs

-- the table of macros: a text each
abbrev pub macros_size : List Macro → ℕ
macros_size [] = 12
macros_size (m ∷ ms) = 3 + length m.text.items + macros_size ms

-- the compilation unit's entry of a symbol, which it has if that has a size
abbrev pub function_size : Symbol → ℕ
function_size s = if nat_lt 0 s.size then 10 + length s.name else 0

abbrev pub functions_size : List Symbol → ℕ
functions_size [] = 0
functions_size (s ∷ ss) = function_size s + functions_size ss

-- the compilation unit of a source of this name in a folder
abbrev pub info_size : List ℕ → List ℕ → List Symbol → ℕ
info_size name folder symbols = 49 + length name + length folder + functions_size symbols

-- the file: its headers and what all files have, the image, the symbols and the lines of a source of this name; its
-- compilation unit, frames and macros have sizes of their own
abbrev pub file_size : List ℕ → List (List ℕ) → List PlacedLine → List ℕ → ℕ
file_size image names lines name = 853 + length image + symbols_size names + lines_size name lines
