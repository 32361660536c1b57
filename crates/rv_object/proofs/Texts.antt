-- How many bytes macros have.
use Rattle.std.proofs.Common.{◌≡◌, ◌+◌, List, [], ◌∷◌, ◌++◌, length, arith}
use Rattle.rv_elf.specs.Size.{macros_size}
use Rattle.rv_elf.specs.declared.macros.Macro.{Macro}

pub appended : (ms : List Macro) (m : Macro) → macros_size (ms ++ m ∷ []) ≡ macros_size ms + (3 + length m.text.items)
appended [] m = omega arith
appended (n ∷ ms) m = omega (arith, appended ms m)
