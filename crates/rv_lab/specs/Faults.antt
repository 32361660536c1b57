-- Why there is no lab, by the errors of its parts.
-- To audit: public contracts cite this.
use Rattle.rv_monitor.specs.declared.opening.OpenFault.{OpenFault}
use Rattle.rv_monitor.specs.declared.opening.OpenFault.TheVariants as opening
use Rattle.rv_program.specs.declared.fault.AsmFault.{AsmFault}
use Rattle.rv_program.specs.declared.fault.FaultKind.{FaultKind}
use Rattle.rv_program.specs.declared.fault.FaultKind.TheVariants as kind
use Rattle.rv_lab.specs.declared.fault.LabFault.{LabFault}
use Rattle.rv_lab.specs.declared.fault.LabFault.TheVariants.{Source, Input, Board, OutOfMemory}

-- the fault of a source that is not assembled, by the kind of the assembler's fault
abbrev pub source_fault : FaultKind → AsmFault → LabFault
source_fault kind.OutOfMemory why = OutOfMemory
source_fault other why = Source why

-- the fault of a program that opens no session
abbrev pub unopened_fault : OpenFault → LabFault
unopened_fault (opening.Input n) = Input n
unopened_fault (opening.Board why) = Board why
unopened_fault opening.OutOfMemory = OutOfMemory
