-- The bytes that the code writes for a file.
-- Private contracts cite this; public ones say what is read of those bytes.
use Rattle.std.specs.Prelude.{ℕ, ◌+◌, ◌*◌, ◌-◌, ◌^◌, ◌<◌, List, [], ◌∷◌, ◌++◌, length, replicate, take, get_or}
use Rattle.std.specs.List.{flat_map}
use Rattle.std.specs.Int.{to_le_bytes, w16, w32}
use Rattle.rv_base.specs.Limits.{ram_base}
use Rattle.rv_elf.specs.Elf.{Section, identification, no_section}

abbrev pub half : ℕ → List ℕ
half n = to_le_bytes w16 n

abbrev pub word : ℕ → List ℕ
word n = to_le_bytes w32 n

abbrev pub halves : List ℕ → List ℕ
halves = flat_map half

abbrev pub words : List ℕ → List ℕ
words = flat_map word

-- the header of a section whose bytes begin at an offset
unfoldable pub section_header : ℕ → Section → List ℕ
section_header at s = words (s.name ∷ s.kind ∷ s.flags ∷ s.address ∷ at ∷ length s.contents
    ∷ s.link ∷ s.info ∷ s.alignment ∷ s.entry_size ∷ [])

-- the headers of sections whose bytes follow one another from an offset on
abbrev pub section_headers : ℕ → List Section → List ℕ
section_headers at [] = []
section_headers at (s ∷ ss) = section_header at s ++ section_headers (at + length s.contents) ss

abbrev pub bodies : List Section → List ℕ
bodies = flat_map (λ s. s.contents)

-- the header of a file with that many sections, the last of which has their names
unfoldable pub file_header : ℕ → List ℕ
file_header count = (identification ++ replicate 9 0) ++ (halves (2 ∷ 243 ∷ [])
    ++ (words (1 ∷ ram_base ∷ 52 ∷ 84 ∷ 0 ∷ []) ++ halves (52 ∷ 32 ∷ 1 ∷ 40 ∷ count ∷ (count - 1) ∷ [])))

-- the header of the one segment
unfoldable pub program_header : ℕ → ℕ → List ℕ
program_header at size = words (1 ∷ at ∷ ram_base ∷ ram_base ∷ size ∷ size ∷ 7 ∷ 4 ∷ [])

-- the offset of the bytes of the first of that many sections
abbrev pub bodies_from : ℕ → ℕ
bodies_from count = 84 + 40 * count

-- the offset of the bytes of a section
abbrev pub offset_of : ℕ → List Section → ℕ
offset_of k ss = bodies_from (length ss) + length (bodies (take k ss))

-- a file of sections, the last of which has their names, with one of them as its segment
unfoldable pub file_of : ℕ → List Section → List ℕ
file_of k ss = file_header (length ss) ++ (program_header (offset_of k ss) (length (get_or ss k no_section).contents)
    ++ (section_headers (bodies_from (length ss)) ss ++ bodies ss))

-- the fields of a section's header fit into 32 bits
pub record IsSmall (s : Section) : Type 0 where
  pub name : s.name < 2 ^ 32
  pub kind : s.kind < 2 ^ 32
  pub flags : s.flags < 2 ^ 32
  pub address : s.address < 2 ^ 32
  pub link : s.link < 2 ^ 32
  pub info : s.info < 2 ^ 32
  pub alignment : s.alignment < 2 ^ 32
  pub entry_size : s.entry_size < 2 ^ 32

abbrev pub AreSmall : List Section → Type 0
AreSmall [] = Unit
AreSmall (s ∷ ss) = IsSmall s × AreSmall ss
