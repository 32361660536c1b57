-- Faults of a source, and results that may be a fault.
-- To audit: public contracts cite this.
-- The language is this project's own: docs/ASSEMBLER.md.
use Rattle.std.specs.Prelude.{◌≡◌, ◌==◌, ℕ, List, Result, Ok, Err, codes, MatchBool}
use Rattle.rv_tokens.specs.declared.fault.LineFault.{LineFault}
use Rattle.rv_tokens.specs.declared.fault.LineFault.TheVariants as line
use Rattle.rv_program.specs.declared.fault.FaultKind.{FaultKind}
use Rattle.rv_program.specs.declared.fault.FaultKind.TheVariants.{BadByte, LineTooLong, Syntax, UnknownWord, BadOperands, DuplicateSymbol, NotConstant, Misplaced, TooLarge, Undefined, OutOfRange, OutOfMemory}
use Rattle.rv_program.specs.declared.fault.AsmFault.{AsmFault}

-- the number and the name of each kind of fault
abbrev pub title_of : FaultKind → ℕ × List ℕ
title_of BadByte = (1, codes "BadByte")
title_of LineTooLong = (2, codes "LineTooLong")
title_of Syntax = (3, codes "Syntax")
title_of UnknownWord = (4, codes "UnknownWord")
title_of BadOperands = (5, codes "BadOperands")
title_of DuplicateSymbol = (6, codes "DuplicateSymbol")
title_of NotConstant = (7, codes "NotConstant")
title_of Misplaced = (8, codes "Misplaced")
title_of TooLarge = (9, codes "TooLarge")
title_of Undefined = (10, codes "Undefined")
title_of OutOfRange = (11, codes "OutOfRange")
title_of OutOfMemory = (12, codes "OutOfMemory")

-- a result, seen through a view, is the one meant, or memory ran out, which is E12 at line 0
abbrev pub Gives : {A B : Type 0} → (A → B) → Result A AsmFault → Result B AsmFault → Type 0
Gives view (Ok x) meaning = meaning ≡ Ok (view x)
Gives view (Err fault) meaning =
    MatchBool ((title_of fault.kind).0 == 12) (fault.line ≡ 0) (meaning ≡ Err fault)

-- the kind of a fault of a line that can't be read
abbrev pub kind_of : LineFault → FaultKind
kind_of line.BadByte = BadByte
kind_of line.LineTooLong = LineTooLong
kind_of line.Syntax = Syntax
kind_of line.UnknownWord = UnknownWord
kind_of line.BadOperands = BadOperands
kind_of line.OutOfMemory = OutOfMemory
