-- The text of a value, appended to a line.
-- Not to audit: private contracts alone cite this.
use Rattle.std.specs.Prelude.{◌≡◌, ℕ, List, ◌++◌, Option, Some, None, ⊤, codes}
use Rattle.std.specs.Fmt.{decimal}
use Rattle.std.specs.Option.{option_map_or}
use Rattle.rv_base.specs.Digits.{hex}
use Rattle.rv_monitor.specs.Views.{line}
use Rattle.rv_program.specs.declared.fault.AsmFault.{AsmFault}
use Rattle.rv_cli.specs.Faults.{fault_row}
use Rattle.rv_cli.specs.declared.fault.CliFault.TheVariants.{Source}

-- the text that `Display` writes was appended, with a line end, where it is known
abbrev pub IsAppended : Option (List ℕ) → List ℕ → List ℕ → Type 0
IsAppended (Some shown) old new = new ≡ old ++ line shown
IsAppended None old new = ⊤

-- `halted` with a code, or `running at` a pc
abbrev pub stand_of : Option ℕ → ℕ → List ℕ
stand_of halted pc =
    option_map_or (λ code. codes "halted " ++ decimal code) halted (codes "running at " ++ hex 8 pc)

-- that, and after how many steps: the status line
abbrev pub status_text : Option ℕ → ℕ → ℕ → List ℕ
status_text halted pc steps = stand_of halted pc ++ codes " after " ++ decimal steps ++ codes " steps"

-- the line of a timed list's fault
abbrev pub input_line_of : ℕ → List ℕ
input_line_of n = codes "input line " ++ decimal n ++ codes ": refused"

-- the line of a source's fault, without its line end
abbrev pub source_line_of : AsmFault → List ℕ
source_line_of fault = (fault_row (Source fault)).0
