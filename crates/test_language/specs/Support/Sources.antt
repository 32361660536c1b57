-- Not to audit: rows of tests alone cite this.
-- What the rows of src/lib.rt say of the definition of an assembly.
use Rattle.std.specs.Prelude.{ℕ, Bool, false, ◌==◌, ◌&&◌, List, Result, Ok, Err}
use Rattle.std.specs.Str.{bytes_eq}
use Rattle.rv_program.specs.Faults.{title_of}
use Rattle.rv_program.specs.Program.{Assembly}
use Rattle.rv_program.specs.declared.fault.AsmFault.{AsmFault}
use Rattle.rv_asm.specs.Assembly.{assembled}

abbrev pub is_image : List ℕ → Result Assembly AsmFault → Bool
is_image bytes (Ok assembly) = bytes_eq assembly.bytes bytes
is_image bytes (Err fault) = false

abbrev pub is_fault : ℕ → ℕ → Result Assembly AsmFault → Bool
is_fault line number (Ok assembly) = false
is_fault line number (Err fault) = (fault.line == line) && ((title_of fault.kind).0 == number)

-- bytes that a constant lends
abbrev pub Lent : Type 0
Lent = record { now : List ℕ }

-- a source has an image, by its bytes
abbrev pub has_image : Lent × Lent → Bool
has_image row = is_image row.1.now (assembled row.0.now)

-- a source has a fault, by its line and its number
abbrev pub has_fault : Lent × ℕ × ℕ → Bool
has_fault row = is_fault row.1 row.2 (assembled row.0.now)
