-- The frames of functions, as debuggers read them: how the caller of each goes on.
-- To audit: public contracts cite this. What the instructions mean is left open.
-- DWARF Debugging Information Format, version 4, section 6.4.1, and section 7.23.
use Rattle.std.specs.Prelude.{ℕ, zero, suc, ◌+◌, ◌-◌, ◌%◌, ◌==◌, List, [], ◌∷◌, ◌++◌, take, drop, filter, map, length, replicate, not, if◌then◌else◌}
use Rattle.rv_elf.specs.Elf.{word_at}
use Rattle.rv_elf.specs.LineNumbers.{leb, after_numbers}
use Rattle.rv_elf.specs.declared.frames.Function.{Function}

-- the entries of a section, of which there are that many at most: each follows its size
unfoldable pub entries_from : ℕ → List ℕ → List (List ℕ)
entries_from zero bs = []
entries_from (suc most) [] = []
entries_from (suc most) (b ∷ bs) =
    take (word_at (b ∷ bs) 0) (drop 4 (b ∷ bs)) ∷ entries_from most (drop (4 + word_at (b ∷ bs) 0) (b ∷ bs))

-- the column of what its caller goes on at, in a common information entry that has no augmentation and begins at an
-- offset of the section: it follows ten bytes of fields, an empty text and two numbers
abbrev pub column_at : List ℕ → ℕ → ℕ
column_at section offset = (leb (after_numbers 2 (drop (offset + 12) section))).value

-- a frame description entry: the column of what its caller goes on at, the function's address and size, and its
-- instructions
pub record Description : Type 0 where
  pub column : ℕ
  pub start : ℕ
  pub size : ℕ
  pub instructions : List ℕ

abbrev pub description : List ℕ → List ℕ → Description
description section entry = record {
  column = column_at section (word_at entry 0);
  start = word_at entry 4;
  size = word_at entry 8;
  instructions = drop 12 entry;
}

-- the frame description entries of a section: a common information entry has 0xffffffff in place of its offset
unfoldable pub descriptions : List ℕ → List Description
descriptions section = map (description section)
    (filter (λ e. not (word_at e 0 == 0xffffffff)) (entries_from (length section) section))

-- what a function's entry says: its caller goes on at ra, that of a trap handler at mepc, which has the number 0x341
-- among the control registers, whose columns follow 4096; instructions that change nothing bring the size of an entry
-- to a multiple of 4
abbrev pub description_of : Function → Description
description_of f = record {
  column = if f.is_handler then 4096 + 0x341 else 1;
  start = f.start;
  size = f.size;
  instructions = f.instructions.items ++ replicate ((4 - length f.instructions.items % 4) % 4) 0;
}
