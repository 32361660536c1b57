-- Why no session is opened, by the errors of its parts.
-- To audit: public contracts cite this.
use Rattle.rv_board.specs.declared.event.BootFault.{BootFault}
use Rattle.rv_board.specs.declared.event.BootFault.TheVariants as boot
use Rattle.rv_timeline.specs.declared.fault.TimelineFault.{TimelineFault}
use Rattle.rv_timeline.specs.declared.fault.TimelineFault.TheVariants as list
use Rattle.rv_monitor.specs.declared.opening.OpenFault.{OpenFault}
use Rattle.rv_monitor.specs.declared.opening.OpenFault.TheVariants.{Input, Board, OutOfMemory}

-- the fault of a timed list that can't be read
abbrev pub list_fault : TimelineFault → OpenFault
list_fault (list.BadLine n) = Input n
list_fault list.OutOfMemory = OutOfMemory

-- the fault of a board that does not start
abbrev pub board_fault : BootFault → OpenFault
board_fault boot.OutOfMemory = OutOfMemory
board_fault other = Board other
