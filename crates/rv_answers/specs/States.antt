-- To audit: public contracts cite this.
-- What control registers, devices and protection hold, as the lab answers it (this project's own: docs/LAB.md).
use Rattle.std.specs.Prelude.{ℕ, ◌-◌, ◌^◌, ◌==◌, ◌||◌, ◌&&◌, List, filter, get_or, if◌then◌else◌, length, map, not, Option, Some, None}
use Rattle.std.specs.FinSet as set
use Rattle.std.specs.List.{range_with_len}
use Rattle.rv_isa.specs.Number.{flag}
use Rattle.rv_mmio.specs.Serial.{SerialState}
use Rattle.rv_mmio.specs.Timer.{TimerState, is_due}
use Rattle.rv_plic.specs.Gateways.{PlicState, edges_of}
use Rattle.rv_plic.specs.Plic.{priority_of}
use Rattle.rv_plic.specs.Sources.{word_of}
use Rattle.rv_pmp.specs.Entry.{matching_code, permits}
use Rattle.rv_pmp.specs.Pmp.{PmpState, entry_at, matches}
use Rattle.rv_pmp.specs.declared.access.Access.TheVariants.{Read, Write, Execute}
use Rattle.rv_pmp.specs.declared.entry.Entry.{Entry}
use Rattle.rv_pmp.specs.declared.mode.Mode.{Mode}
use Rattle.rv_pmp.specs.declared.mode.Mode.TheVariants.{User, Machine}
use Rattle.rv_answers.specs.declared.values.Bits.{Bits}
use Rattle.rv_answers.specs.declared.values.Bits.TheVariants.{Status, Lines, Cause}
use Rattle.rv_answers.specs.declared.values.Clock.{Clock}
use Rattle.rv_answers.specs.declared.values.Port.{Port}
use Rattle.rv_answers.specs.declared.values.Range.{Range}
use Rattle.rv_answers.specs.declared.values.Region.{Region}
use Rattle.rv_answers.specs.declared.values.Rights.{Rights}
use Rattle.rv_answers.specs.declared.values.SourceState.{SourceState}

-- what the bits of mstatus (0x300), of mie (0x304) and mip (0x344), and of mcause (0x342) say, the last once a
-- trap was taken (Privileged Architecture 20211203, sections 3.1.6, 3.1.9 and 3.1.15)
unfoldable pub bits_of : (traps csr w : ℕ) → Option Bits
bits_of traps csr w =
    if csr == 0x300 then Some (Status (flag w 3) (flag w 7) (flag w 11) (flag w 17) (flag w 21))
    else (if (csr == 0x304) || (csr == 0x344) then Some (Lines (flag w 3) (flag w 7) (flag w 11))
    else (if (csr == 0x342) && not (traps == 0) then Some (Cause w) else None))

-- ---- devices

abbrev pub clock_of : TimerState → Clock
clock_of t = record { time = t.time; compare = t.compare; is_due = is_due t; software = t.software }

abbrev pub port_of : SerialState → Port
port_of s = record { waiting = length s.waiting; sent = length s.sent; overrun = s.overrun }

-- a source of the interrupt controller
unfoldable pub source_of : PlicState → ℕ → SourceState
source_of p s = record {
  source = s;
  is_high = set.contains p.high s;
  is_pending = flag (word_of p.pending) s;
  is_claimed = set.contains p.outstanding s;
  is_enabled = flag (word_of p.enabled) s;
  priority = priority_of p s;
  edges = edges_of p.edges s;
}

-- ---- protection

abbrev pub rights_of : Entry → Mode → Rights
rights_of entry mode = record {
  read = permits entry mode Read;
  write = permits entry mode Write;
  execute = permits entry mode Execute;
}

-- the first and the last of some bytes
abbrev pub range_of : List ℕ → Option Range
range_of bytes = if length bytes == 0 then None
    else Some (record { first = get_or bytes 0 0; last = get_or bytes (length bytes - 1) 0 })

-- the bytes that the entry with a number matches, of all that have an address of 34 bits
unfoldable pub bytes_of : PmpState → ℕ → List ℕ
bytes_of pmp n = filter (matches pmp n) (range_with_len 0 (2 ^ 34))

-- the entry with a number: its bytes, and what it grants
unfoldable pub region_of : PmpState → ℕ → Region
region_of pmp n = record {
  entry = n;
  range = range_of (bytes_of pmp n);
  user = rights_of (entry_at pmp n) User;
  machine = rights_of (entry_at pmp n) Machine;
  is_locked = (entry_at pmp n).locked;
}

-- the entries that are on, of all 16
unfoldable pub regions : PmpState → List Region
regions pmp =
    map (region_of pmp) (filter (λ n. not (matching_code (entry_at pmp n).matching == 0)) (range_with_len 0 16))
