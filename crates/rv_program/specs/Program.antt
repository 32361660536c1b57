-- The image and the names that a source is assembled to.
-- To audit: public contracts cite this.
-- The language is this project's own: docs/ASSEMBLER.md.
use Rattle.std.specs.Prelude.{ℕ, ◌&&◌, List, ℤ, pos, negsuc, int_le, Bool, Option}
use Rattle.rv_base.specs.Tables.{lookup}

-- the bytes of the image, and the names with their values, in order of definition
pub record Assembly : Type 0 where
  pub bytes : List ℕ
  pub symbols : List (List ℕ × ℤ)

-- the value of a name: that of its only definition
unfoldable pub value_of : List (List ℕ × ℤ) → List ℕ → Option ℤ
value_of ds name = lookup name ds

-- whether a value fits into 32 bits, signed or unsigned: from -2 ^ 31 to 2 ^ 32 - 1
abbrev pub is_word : ℤ → Bool
is_word v = int_le (negsuc 0x7fffffff) v && int_le v (pos 0xffffffff)
