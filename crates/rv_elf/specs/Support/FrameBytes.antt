-- The bytes that the code writes for frames.
-- Private contracts cite this; public ones say what is read of those bytes.
use Rattle.std.specs.Prelude.{ℕ, ◌-◌, ◌%◌, ◌^◌, ◌<◌, List, [], ◌∷◌, ◌++◌, length, replicate, if◌then◌else◌}
use Rattle.std.specs.List.{flat_map}
use Rattle.rv_elf.specs.declared.frames.Function.{Function}
use Rattle.rv_elf.specs.Support.Written.{word}

-- a common information entry's fields up to the column of what its caller goes on at
abbrev pub fields_bytes : List ℕ
fields_bytes = 255 ∷ 255 ∷ 255 ∷ 255 ∷ 4 ∷ 0 ∷ 4 ∷ 0 ∷ 1 ∷ 0x7c ∷ []

-- the common information entries of functions and of trap handlers
abbrev pub common_bytes : List ℕ
common_bytes = (16 ∷ 0 ∷ 0 ∷ 0 ∷ fields_bytes) ++ (1 ∷ 0x0c ∷ 2 ∷ 0 ∷ 0 ∷ 0 ∷ [])
    ++ ((16 ∷ 0 ∷ 0 ∷ 0 ∷ fields_bytes) ++ (0xc1 ∷ 0x26 ∷ 0x0c ∷ 2 ∷ 0 ∷ 0 ∷ []))

-- what brings a size to a multiple of 4
abbrev pub padding : ℕ → List ℕ
padding size = replicate ((4 - size % 4) % 4) 0

-- a frame description entry without its size
unfoldable pub body_bytes : Function → List ℕ
body_bytes f = word (if f.is_handler then 20 else 0) ++ (word f.start ++ (word f.size
    ++ (f.instructions.items ++ padding (length f.instructions.items))))

abbrev pub entry_bytes : Function → List ℕ
entry_bytes f = word (length (body_bytes f)) ++ body_bytes f

-- a section of frames
abbrev pub frames_bytes : List Function → List ℕ
frames_bytes fs = common_bytes ++ flat_map entry_bytes fs

-- the fields of an entry fit
pub record IsShort (f : Function) : Type 0 where
  pub start : f.start < 2 ^ 32
  pub size : f.size < 2 ^ 32
  pub entry : length (body_bytes f) < 2 ^ 32

abbrev pub AreShort : List Function → Type 0
AreShort [] = Unit
AreShort (f ∷ fs) = IsShort f × AreShort fs
