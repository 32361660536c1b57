-- The bytes that the code writes for a symbol table and its strings.
-- Private contracts cite this; public ones say what is read of those bytes.
use Rattle.std.specs.Prelude.{ℕ, ◌+◌, ◌^◌, ◌<◌, List, [], ◌∷◌, ◌++◌, length, replicate}
use Rattle.std.specs.List.{flat_map}
use Rattle.rv_elf.specs.Symbols.{Symbol}
use Rattle.rv_elf.specs.Support.Written.{half, words}

-- the entry of a symbol whose name is at an offset
unfoldable pub entry : ℕ → Symbol → List ℕ
entry at s = words (at ∷ s.value ∷ s.size ∷ []) ++ s.info ∷ 0 ∷ half s.section

-- the entries of symbols whose names follow one another from an offset on
abbrev pub entries : ℕ → List Symbol → List ℕ
entries at [] = []
entries at (s ∷ ss) = entry at s ++ entries (at + (length s.name + 1)) ss

-- their names
abbrev pub names : List Symbol → List ℕ
names = flat_map (λ s. s.name ++ 0 ∷ [])

-- the entries of symbols, after the one that names nothing
abbrev pub table_of : List Symbol → List ℕ
table_of ss = replicate 16 0 ++ entries 1 ss

-- the strings of symbols, after the empty one
abbrev pub strings_of : List Symbol → List ℕ
strings_of ss = 0 ∷ names ss

-- the fields of a symbol fit
pub record IsSmall (s : Symbol) : Type 0 where
  pub value : s.value < 2 ^ 32
  pub size : s.size < 2 ^ 32
  pub section : s.section < 2 ^ 16

abbrev pub AreSmall : List Symbol → Type 0
AreSmall [] = Unit
AreSmall (s ∷ ss) = IsSmall s × AreSmall ss

-- the offset of each name fits into 32 bits
abbrev pub Within : ℕ → List Symbol → Type 0
Within at [] = Unit
Within at (s ∷ ss) = (at < 2 ^ 32) × Within (at + (length s.name + 1)) ss
