-- To audit: public contracts cite this.
-- The serial port: a queue of received bytes, and the console, which is the bytes that were sent.
use Rattle.std.specs.Prelude.{ℕ, Bool, true, false, ◌+◌, ◌%◌, nat_lt, if◌then◌else◌, List, [], ◌∷◌, ◌++◌, length, drop, slice_get, unwrap_or}
use Rattle.rv_base.specs.Registers.{Register, register}
use Rattle.rv_mmio.specs.declared.serial.SerialReg.{SerialReg}
use Rattle.rv_mmio.specs.declared.serial.SerialReg.TheVariants.{Tx, Rx, Status}

-- the received bytes that are waiting, oldest first; the bytes that were sent, oldest first; whether a
-- received byte was lost
pub record SerialState : Type 0 where
  pub waiting : List ℕ
  pub sent : List ℕ
  pub overrun : Bool

-- the port at reset
abbrev pub serial_at_reset : SerialState
serial_at_reset = record { waiting = []; sent = []; overrun = false }

-- the status: bit 0 where a byte is waiting, bit 1 since a byte may always be sent, bit 2 where a byte was
-- lost
abbrev pub serial_status : SerialState → ℕ
serial_status s = (if nat_lt 0 (length s.waiting) then 1 else 0) + 2 + (if s.overrun then 4 else 0)

-- the registers. A store to the transmit register sends the low byte of its word. A load of the receive
-- register takes the oldest byte; where none is waiting, it returns a word that no byte has, of which a narrow
-- load sees zeros. A load of the status register clears the overrun
abbrev pub serial_register : SerialReg → Register SerialState
serial_register Tx = register (λ s. 0) (λ s w. record s { sent = s.sent ++ (w % 256) ∷ [] })
serial_register Rx =
    record (register (λ s. unwrap_or (slice_get s.waiting 0) 0x80000000) (λ s w. s))
    { loaded = λ s. record s { waiting = drop 1 s.waiting } }
serial_register Status = record (register serial_status (λ s w. s)) { loaded = λ s. record s { overrun = false } }

-- the port after it received a byte: the queue holds 16, and a byte beyond them is lost
abbrev pub received : SerialState → ℕ → SerialState
received serial byte =
    if nat_lt (length serial.waiting) 16 then record serial { waiting = serial.waiting ++ byte ∷ [] }
    else record serial { overrun = true }
