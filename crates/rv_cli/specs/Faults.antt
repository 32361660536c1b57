-- The line of a fault, and the exit statuses (this project's own: docs/BOARD.md).
-- To audit: public contracts cite this.
use Rattle.std.specs.Prelude.{ℕ, ◌==◌, List, ◌++◌, Result, Ok, Err, codes, if◌then◌else◌}
use Rattle.std.specs.Fmt.{decimal}
use Rattle.rv_program.specs.Faults.{title_of}
use Rattle.rv_cli.specs.declared.fault.CliFault.{CliFault}
use Rattle.rv_cli.specs.declared.fault.CliFault.TheVariants.{ReadSource, ReadInput, ReadCommands, Source, Input, BadPages, BadSlots, ImageTooLarge, OutOfMemory, Write}
use Rattle.rv_cli.specs.declared.fault.Ending.{Ending}
use Rattle.rv_cli.specs.declared.fault.Ending.TheVariants.{Halted, Running}

-- a row a fault: its line without the line end, as `source line 3: E6 DuplicateSymbol` of a source's, and the
-- exit status
abbrev pub fault_row : CliFault → List ℕ × ℕ
fault_row ReadSource = (codes "cannot read source", 4)
fault_row ReadInput = (codes "cannot read input", 4)
fault_row ReadCommands = (codes "cannot read commands", 4)
fault_row (Source fault) =
    let title = title_of fault.kind in
    (codes "source line " ++ decimal fault.line ++ codes ": E" ++ decimal title.0 ++ codes " " ++ title.1, 3)
fault_row (Input n) = (codes "input line " ++ decimal n ++ codes ": refused", 3)
fault_row BadPages = (codes "bad pages", 3)
fault_row BadSlots = (codes "bad slots", 3)
fault_row ImageTooLarge = (codes "image too large", 3)
fault_row OutOfMemory = (codes "out of memory", 4)
fault_row Write = (codes "cannot write", 4)

-- the exit status of a run
abbrev pub status_of : Result Ending CliFault → ℕ
status_of (Ok (Halted code)) = if code == 0 then 0 else 1
status_of (Ok Running) = 2
status_of (Err fault) = (fault_row fault).1
