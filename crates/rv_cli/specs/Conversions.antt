-- The faults of a run by the errors of its parts.
-- To audit: public contracts cite this.
use Rattle.rv_board.specs.declared.event.BootFault.{BootFault}
use Rattle.rv_board.specs.declared.event.BootFault.TheVariants as boot_fault
use Rattle.rv_monitor.specs.declared.opening.OpenFault.{OpenFault}
use Rattle.rv_monitor.specs.declared.opening.OpenFault.TheVariants as open_fault
use Rattle.rv_program.specs.declared.fault.AsmFault.{AsmFault}
use Rattle.rv_program.specs.declared.fault.FaultKind.{FaultKind}
use Rattle.rv_program.specs.declared.fault.FaultKind.TheVariants as kind
use Rattle.rv_io.specs.declared.fault.ReadFault.{ReadFault}
use Rattle.rv_io.specs.declared.fault.ReadFault.TheVariants as read
use Rattle.rv_io.specs.declared.fault.TextName.{TextName}
use Rattle.rv_io.specs.declared.fault.TextName.TheVariants as text
use Rattle.rv_cli.specs.declared.fault.CliFault.{CliFault}
use Rattle.rv_cli.specs.declared.fault.CliFault.TheVariants as cli

-- the fault of a text that can't be read
abbrev pub unreadable : TextName → CliFault
unreadable text.Source = cli.ReadSource
unreadable text.Input = cli.ReadInput
unreadable text.Commands = cli.ReadCommands

-- the fault of texts that were not read
abbrev pub unread_fault : ReadFault → CliFault
unread_fault (read.Unreadable name) = unreadable name
unread_fault read.OutOfMemory = cli.OutOfMemory

-- the fault of a board that isn't booted
abbrev pub unbooted_fault : BootFault → CliFault
unbooted_fault boot_fault.BadPages = cli.BadPages
unbooted_fault boot_fault.BadSlots = cli.BadSlots
unbooted_fault boot_fault.ImageTooLarge = cli.ImageTooLarge
unbooted_fault boot_fault.OutOfMemory = cli.OutOfMemory

-- the fault of a source that is not assembled, by the kind of the assembler's fault
abbrev pub source_fault : FaultKind → AsmFault → CliFault
source_fault kind.OutOfMemory why = cli.OutOfMemory
source_fault other why = cli.Source why

-- the fault of a program that opens no session
abbrev pub unopened_fault : OpenFault → CliFault
unopened_fault (open_fault.Input line) = cli.Input line
unopened_fault (open_fault.Board why) = unbooted_fault why
unopened_fault open_fault.OutOfMemory = cli.OutOfMemory
