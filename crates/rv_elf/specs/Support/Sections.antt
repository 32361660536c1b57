-- The sections that the code writes.
-- Private contracts cite this; public ones say what is read of them.
use Rattle.std.specs.Prelude.{ℕ, List, [], ◌∷◌, ◌++◌, codes, ◌≡◌, Some}
use Rattle.rv_base.specs.Limits.{ram_base}
use Rattle.rv_elf.specs.Elf.{Section, no_section, contents}
use Rattle.rv_elf.specs.declared.object.Tables.{Tables}

-- the names of the sections
abbrev pub section_names : List ℕ
section_names = 0 ∷ (codes ".symtab" ++ 0 ∷ (codes ".text" ++ 0 ∷ (codes ".strtab" ++ 0 ∷ (codes ".riscv.attributes"
    ++ 0 ∷ (codes ".debug_abbrev" ++ 0 ∷ (codes ".debug_info" ++ 0 ∷ (codes ".debug_line" ++ 0
    ∷ (codes ".debug_aranges" ++ 0 ∷ (codes ".debug_frame" ++ 0 ∷ (codes ".debug_macro" ++ 0
    ∷ (codes ".shstrtab" ++ 0 ∷ [])))))))))))

-- a section that isn't loaded, by the offset of its name, its kind and its bytes
abbrev pub plain : ℕ → ℕ → List ℕ → Section
plain name kind bytes = record {
  name = name;
  kind = kind;
  flags = 0;
  address = 0;
  link = 0;
  info = 0;
  alignment = 1;
  entry_size = 0;
  contents = bytes;
}

-- what the sections of a file have
pub record Parts : Type 0 where
  pub table : List ℕ
  pub image : List ℕ
  pub strings : List ℕ
  pub attributes : List ℕ
  pub abbreviations : List ℕ
  pub info : List ℕ
  pub lines : List ℕ
  pub ranges : List ℕ
  pub frames : List ℕ
  pub macros : List ℕ

-- the parts of attributes, abbreviations, an image, its tables, its frames and its macros
abbrev pub parts : List ℕ → List ℕ → List ℕ → Tables → List ℕ → List ℕ → Parts
parts attributes abbreviations image t frames macros = record {
  table = t.symbols.table.items;
  image = image;
  strings = t.symbols.strings.items;
  attributes = attributes;
  abbreviations = abbreviations;
  info = t.info.items;
  lines = t.lines.items;
  ranges = t.ranges.items;
  frames = frames;
  macros = macros;
}

-- the sections, with the number of symbols
abbrev pub sections_of : Parts → ℕ → List Section
sections_of p count = no_section
    ∷ record (plain 1 2 p.table) { link = 3; info = count; alignment = 4; entry_size = 16 }
    ∷ record (plain 9 1 p.image) { flags = 7; address = ram_base; alignment = 4 }
    ∷ plain 15 3 p.strings
    ∷ plain 23 0x70000003 p.attributes
    ∷ plain 41 1 p.abbreviations
    ∷ plain 55 1 p.info
    ∷ plain 67 1 p.lines
    ∷ plain 79 1 p.ranges
    ∷ plain 94 1 p.frames
    ∷ plain 107 1 p.macros
    ∷ plain 120 3 section_names
    ∷ []

-- the parts that are tables are found by the names of their sections
pub record AreFound (p : Parts) (file : List ℕ) : Type 0 where
  pub table : contents file (codes ".symtab") ≡ Some p.table
  pub strings : contents file (codes ".strtab") ≡ Some p.strings
  pub info : contents file (codes ".debug_info") ≡ Some p.info
  pub lines : contents file (codes ".debug_line") ≡ Some p.lines
  pub frames : contents file (codes ".debug_frame") ≡ Some p.frames
  pub macros : contents file (codes ".debug_macro") ≡ Some p.macros
