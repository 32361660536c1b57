-- What debuggers and disassemblers read of a file.
-- To audit: public contracts cite this.
-- System V ABI, chapter 4, "Special Sections"; DWARF 4, section 7.3.
use Rattle.std.specs.Prelude.{ℕ, List, codes, Option, Some, option_and_then}
use Rattle.rv_elf.specs.Elf.{contents}
use Rattle.rv_elf.specs.Symbols.{Symbol, symbols}
use Rattle.rv_elf.specs.LineNumbers.{Row, rows}

-- the symbols of a file
abbrev pub symbols_of : List ℕ → Option (List Symbol)
symbols_of file = option_and_then
    (λ table. option_and_then (λ strings. Some (symbols strings table)) (contents file (codes ".strtab")))
    (contents file (codes ".symtab"))

-- the rows of the lines of a file
abbrev pub lines_of : List ℕ → Option (List Row)
lines_of file = option_and_then rows (contents file (codes ".debug_line"))
