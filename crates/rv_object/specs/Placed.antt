-- What the ELF file of a source says of its labels and lines.
-- To audit: public contracts cite this.
use Rattle.std.specs.Prelude.{◌≡◌, ℕ, zero, suc, ◌+◌, ◌-◌, ◌*◌, ◌^◌, ◌<◌, ◌==◌, ◌&&◌, Bool, false, not, List, [], ◌∷◌, ◌++◌, codes, map, drop, length, nat_lt, if◌then◌else◌, Option, Some, None, is_some}
use Rattle.std.specs.Option.{unwrap_or}
use Rattle.rv_base.specs.Limits.{ram_base}
use Rattle.rv_program.specs.Program.{value_of}
use Rattle.rv_asm.specs.Lines.{Listed, address_of, bytes_of}
use Rattle.rv_elf.specs.Elf.{contents, text}
use Rattle.rv_elf.specs.Frames.{description_of, descriptions}
use Rattle.rv_elf.specs.Size.{file_size, frames_size, symbols_size}
use Rattle.rv_elf.specs.Symbols.{Symbol}
use Rattle.rv_elf.specs.declared.frames.Function.{Function}
use Rattle.rv_elf.specs.declared.lines.PlacedLine.{PlacedLine}

-- ---- symbols

abbrev pub name_and_value : Symbol → List ℕ × ℕ
name_and_value s = (s.name, s.value)

-- the names and values of the symbols that follow the one that names nothing and the one of the source
abbrev pub names_and_values : List Symbol → List (List ℕ × ℕ)
names_and_values symbols = map name_and_value (drop 2 symbols)

-- labels as a string table can have them: a name ends at its first null byte, of which names have none
abbrev pub texts : List (List ℕ × ℕ) → List (List ℕ × ℕ)
texts = map (λ l. (text l.0, l.1))

-- the first of some labels is where a program begins
abbrev pub starts_named : List (List ℕ × ℕ) → Bool
starts_named [] = false
starts_named (l ∷ ls) = l.1 == ram_base

-- no label is there, and no name is `_start`
abbrev pub lacks_start : Listed → Bool
lacks_start l = not (starts_named l.labels) && not (is_some (value_of l.assembly.symbols (codes "_start")))

-- the labels, and `_start` where that is lacking
abbrev pub all_labels : Listed → List (List ℕ × ℕ)
all_labels l = l.labels ++ (if lacks_start l then (codes "_start", ram_base) ∷ [] else [])

-- ---- lines

-- a line that has bytes, with its address
abbrev pub placed_line : Listed → ℕ → List PlacedLine
placed_line l n =
    if nat_lt 0 (length (bytes_of l n)) then record { line = n; address = unwrap_or (address_of l n) 0 } ∷ [] else []

-- those of that many lines from one on
unfoldable pub placed_from : Listed → ℕ → ℕ → List PlacedLine
placed_from l n zero = []
placed_from l n (suc count) = placed_line l n ++ placed_from l (suc n) count

-- ---- frames

-- a section says nothing but the frames of some functions
abbrev pub AreFrames : Option (List ℕ) → Type 0
AreFrames None = ⊥
AreFrames (Some section) =
    (fs : List Function) × (descriptions section ≡ map description_of fs) × (length section ≡ frames_size fs)

-- ---- sizes

-- the number of bytes of a section of a file
abbrev pub section_size : List ℕ → List ℕ → ℕ
section_size file name = length (unwrap_or (contents file name) [])

-- the number of bytes of the file of a source of this name, without its compilation unit, frames and macros: a symbol
-- has the source's name, and one each label's
abbrev pub size_of : Listed → List ℕ → ℕ
size_of l name = file_size l.assembly.bytes (name ∷ map (λ p. p.0) (all_labels l))
    (placed_from l 1 (length l.addresses - 1)) name

-- the most that these have, of a source in a folder
abbrev pub most_of : Listed → List ℕ → List ℕ → ℕ
most_of l name folder =
    49 + length name + length folder + symbols_size (name ∷ map (λ p. p.0) (all_labels l))
    + (40 + 48 * length l.assembly.bytes) + (12 + 2 ^ 28)

-- the compilation unit, the frames and the macros of a file
abbrev pub tables_size : List ℕ → ℕ
tables_size file = section_size file (codes ".debug_info") + section_size file (codes ".debug_frame")
    + section_size file (codes ".debug_macro")

-- the file of a source can be written: it has less than 4 GiB at most, and a line's number has 32 bits
abbrev pub Fits : Listed → List ℕ → List ℕ → Type 0
Fits l name folder =
    (length l.addresses - 1 < 2 ^ 32) × (size_of l name + most_of l name folder < 2 ^ 32)
