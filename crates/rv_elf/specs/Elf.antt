-- Files of ELF for 32 bits, lowest byte first, as those who read them find their parts.
-- To audit: public contracts cite this.
-- System V ABI, chapter 4 "Object Files" and chapter 5 "Program Loading".
use Rattle.std.specs.Prelude.{ℕ, zero, suc, ◌&&◌, ◌==◌, List, [], ◌∷◌, length, take, drop, get_or, Option, Some, None, if◌then◌else◌}
use Rattle.std.specs.Int.{from_le_bytes, w16, w32}
use Rattle.std.specs.Str.{bytes_eq}
use Rattle.rv_base.specs.Limits.{ram_base}

-- ---- numbers and texts of a file

-- the number of 16 bits at an offset
abbrev pub half_at : List ℕ → ℕ → ℕ
half_at bytes offset = from_le_bytes w16 (take 2 (drop offset bytes))

-- the number of 32 bits at an offset
abbrev pub word_at : List ℕ → ℕ → ℕ
word_at bytes offset = from_le_bytes w32 (take 4 (drop offset bytes))

-- a text up to its null byte
unfoldable pub text : List ℕ → List ℕ
text [] = []
text (b ∷ bs) = if b == 0 then [] else b ∷ text bs

-- the text at an offset of a string table
abbrev pub text_at : List ℕ → ℕ → List ℕ
text_at strings offset = text (drop offset strings)

-- ---- sections: chapter 4, "Sections"

-- a section: the fields of its header, with the offset of its name among the names, and its bytes in place of
-- their offset and size
pub record Section : Type 0 where
  pub name : ℕ
  pub kind : ℕ
  pub flags : ℕ
  pub address : ℕ
  pub link : ℕ
  pub info : ℕ
  pub alignment : ℕ
  pub entry_size : ℕ
  pub contents : List ℕ

-- the section of a file whose header begins there
abbrev pub section : List ℕ → List ℕ → Section
section file header = record {
  name = word_at header 0;
  kind = word_at header 4;
  flags = word_at header 8;
  address = word_at header 12;
  link = word_at header 24;
  info = word_at header 28;
  alignment = word_at header 32;
  entry_size = word_at header 36;
  contents = take (word_at header 20) (drop (word_at header 16) file);
}

-- that many sections, whose headers of 40 bytes follow one another
unfoldable pub sections_from : ℕ → List ℕ → List ℕ → List Section
sections_from zero file headers = []
sections_from (suc count) file headers = section file headers ∷ sections_from count file (drop 40 headers)

-- the sections of a file: e_shnum from e_shoff on
abbrev pub sections : List ℕ → List Section
sections file = sections_from (half_at file 48) file (drop (word_at file 32) file)

-- the bytes of the first section with a name, by the section of all names
unfoldable pub contents_in : List ℕ → List Section → List ℕ → Option (List ℕ)
contents_in names [] name = None
contents_in names (s ∷ ss) name =
    if bytes_eq (text_at names s.name) name then Some s.contents else contents_in names ss name

abbrev pub no_section : Section
no_section = record
    { name = 0; kind = 0; flags = 0; address = 0; link = 0; info = 0; alignment = 0; entry_size = 0; contents = [] }

-- the bytes of the section with a name; the names are those of section e_shstrndx
abbrev pub contents : List ℕ → List ℕ → Option (List ℕ)
contents file name =
    contents_in (get_or (sections file) (half_at file 50) no_section).contents (sections file) name

-- ---- what is loaded: chapter 5, "Program Header"

-- a segment: its kind, where it is loaded, its bytes, its size in memory, and its flags
pub record Segment : Type 0 where
  pub kind : ℕ
  pub address : ℕ
  pub contents : List ℕ
  pub size : ℕ
  pub flags : ℕ

-- the segment of a file whose header begins there
abbrev pub segment : List ℕ → List ℕ → Segment
segment file header = record {
  kind = word_at header 0;
  address = word_at header 8;
  contents = take (word_at header 16) (drop (word_at header 4) file);
  size = word_at header 20;
  flags = word_at header 24;
}

-- that many segments, whose headers of 32 bytes follow one another
unfoldable pub segments_from : ℕ → List ℕ → List ℕ → List Segment
segments_from zero file headers = []
segments_from (suc count) file headers = segment file headers ∷ segments_from count file (drop 32 headers)

-- what a loader takes from a file: where the program begins, and its segments
pub record Loaded : Type 0 where
  pub entry : ℕ
  pub segments : List Segment

-- `\x7fELF`, 32 bits, the lowest byte first, version 1 (chapter 4, "ELF Identification")
abbrev pub identification : List ℕ
identification = 0x7f ∷ 0x45 ∷ 0x4c ∷ 0x46 ∷ 1 ∷ 1 ∷ 1 ∷ []

-- what is loaded of a file: it is executable (e_type), for RISC-V (e_machine), of version 1, and has e_phnum
-- segments from e_phoff on
unfoldable pub loaded : List ℕ → Option Loaded
loaded file =
    if bytes_eq (take 7 file) identification
    && (half_at file 16 == 2 && (half_at file 18 == 243 && word_at file 20 == 1))
    then Some (record {
      entry = word_at file 24;
      segments = segments_from (half_at file 44) file (drop (word_at file 28) file);
    })
    else None

-- what is loaded of a program that lies in memory from the beginning: one segment (PT_LOAD), all of whose bytes may be
-- executed, written and read
abbrev pub image_at : List ℕ → Loaded
image_at image = record {
  entry = ram_base;
  segments = record { kind = 1; address = ram_base; contents = image; size = length image; flags = 7 } ∷ [];
}
