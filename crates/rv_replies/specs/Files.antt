-- To audit: public contracts cite this.
-- What gdb reads in parts.
use Rattle.std.specs.Prelude.{ℕ, List}

-- the description of the registers, where there is memory, the path of the program, and its file
pub record FilesState : Type 0 where
  pub features : List ℕ
  pub memory_map : List ℕ
  pub path : List ℕ
  pub file : List ℕ
