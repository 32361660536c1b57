-- The stores to the serial port that may have to make room for the console, and so may be out of memory.
-- To audit: public contracts cite this.
use Rattle.std.specs.Prelude.{Bool, false, ◌%◌, ◌==◌, length}
use Rattle.rv_mmio.specs.Serial.{SerialState}
use Rattle.rv_mmio.specs.declared.serial.SerialReg.{SerialReg}
use Rattle.rv_mmio.specs.declared.serial.SerialReg.TheVariants.{Tx, Rx, Status}

-- whether the console may have no room left: room is made for 4096 bytes at a time
unfoldable pub is_full : SerialState → Bool
is_full serial = length serial.sent % 4096 == 0

-- whether a store to a register may have to make room
abbrev pub wants_room : SerialState → SerialReg → Bool
wants_room serial Tx = is_full serial
wants_room serial Rx = false
wants_room serial Status = false
