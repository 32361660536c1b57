-- The symbols of a symbol table.
-- To audit: public contracts cite this.
-- System V ABI, chapter 4, "Symbol Table" and "String Table".
use Rattle.std.specs.Prelude.{ℕ, zero, suc, ◌/◌, List, [], ◌∷◌, drop, get_or, length}
use Rattle.rv_elf.specs.Elf.{half_at, word_at, text, text_at}

-- a symbol: its name, value and size, its binding and its type in a byte (16 for each binding), and the index of
-- its section
pub record Symbol : Type 0 where
  pub name : List ℕ
  pub value : ℕ
  pub size : ℕ
  pub info : ℕ
  pub section : ℕ

-- the symbol whose entry begins there
abbrev pub symbol : List ℕ → List ℕ → Symbol
symbol strings entry = record {
  name = text_at strings (word_at entry 0);
  value = word_at entry 4;
  size = word_at entry 8;
  info = get_or entry 12 0;
  section = half_at entry 14;
}

-- that many symbols, whose entries of 16 bytes follow one another
unfoldable pub symbols_from : ℕ → List ℕ → List ℕ → List Symbol
symbols_from zero strings table = []
symbols_from (suc count) strings table = symbol strings table ∷ symbols_from count strings (drop 16 table)

-- the symbols of a table, by the strings that it is linked to
abbrev pub symbols : List ℕ → List ℕ → List Symbol
symbols strings table = symbols_from (length table / 16) strings table

-- entry 0, which names nothing
abbrev pub null_symbol : Symbol
null_symbol = record { name = []; value = 0; size = 0; info = 0; section = 0 }

-- a symbol as a string table can have it: a name ends at its first null byte
abbrev pub named : Symbol → Symbol
named s = record s { name = text s.name }
