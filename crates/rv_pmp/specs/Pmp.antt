-- Physical memory protection: its registers, and what they grant. RISC-V Privileged Architecture 20211203,
-- section 3.7.1.
-- To audit: public contracts cite this.
use Rattle.std.specs.Prelude.{ℕ, zero, suc, ◌+◌, ◌-◌, ◌*◌, ◌/◌, ◌%◌, ◌^◌, Bool, false, ◌==◌, ◌&&◌, ◌||◌, not, nat_le, if◌then◌else◌, List, find, length, map, slice_index_or, Option, Some, None}
use Rattle.std.specs.List.{list_any, list_all, range_with_len, sum_by}
use Rattle.rv_pmp.specs.declared.access.Access.{Access}
use Rattle.rv_pmp.specs.declared.mode.Mode.{Mode}
use Rattle.rv_pmp.specs.declared.entry.Entry.{Entry}
use Rattle.rv_pmp.specs.declared.entry.Matching.TheVariants.{Off}
use Rattle.rv_pmp.specs.Entry.{matching_code, config_byte, configured, addressed, matched, permits}
use Rattle.rv_pmp.specs.Mode.{is_machine}

-- the entries, of which the lowest-numbered has the highest priority
pub record PmpState : Type 0 where
  pub entries : List Entry

-- an entry that matches nothing: each of the sixteen after a reset
abbrev pub off_entry : Entry
off_entry =
    record { address = 0; readable = false; writable = false; executable = false; locked = false; matching = Off }

-- ---- which accesses are granted

-- an entry by its number
abbrev pub entry_at : PmpState → ℕ → Entry
entry_at pmp n = slice_index_or pmp.entries n off_entry

-- the address register of the entry before one, where the region of a TOR entry begins: 0 before the first
abbrev pub lower_of : PmpState → ℕ → ℕ
lower_of pmp zero = 0
lower_of pmp (suc n) = (entry_at pmp n).address

-- whether an entry matches a byte
abbrev pub matches : PmpState → ℕ → ℕ → Bool
matches pmp n byte = matched (entry_at pmp n).matching (lower_of pmp n) (entry_at pmp n).address byte

-- the entry that decides about an access to these bytes, if any: the lowest-numbered that matches any of them
abbrev pub decider : PmpState → List ℕ → Option ℕ
decider pmp bytes = find (λ n. list_any (matches pmp n) bytes) (range_with_len 0 (length pmp.entries))

-- what it decides for a mode: it has to match all of the bytes and to permit the access. Where none decides,
-- only machine mode is granted it
abbrev pub decided : PmpState → Mode → Access → List ℕ → Option ℕ → Bool
decided pmp mode access bytes None = is_machine mode
decided pmp mode access bytes (Some n) = list_all (matches pmp n) bytes && permits (entry_at pmp n) mode access

-- whether a mode is granted an access to `count` bytes from `first` on
unfoldable pub grants : PmpState → Mode → Access → ℕ → ℕ → Bool
grants pmp mode access first count =
    let bytes = range_with_len first count in decided pmp mode access bytes (decider pmp bytes)

-- ---- the registers: pmpcfg0 to pmpcfg3 at 0x3A0 to 0x3A3, each with the configuration bytes of four
-- entries, low byte first; and pmpaddr0 to pmpaddr15 at 0x3B0 to 0x3BF

-- the value of the configuration register of four entries from one on
abbrev pub config_word : PmpState → ℕ → ℕ
config_word pmp first = sum_by (λ i. config_byte (entry_at pmp (first + i)) * 2 ^ (8 * i)) (range_with_len 0 4)

-- whether a configuration register is at an address, and whether an address register is
abbrev pub is_config : ℕ → Bool
is_config addr = nat_le 0x3A0 addr && nat_le addr 0x3A3

abbrev pub is_address : ℕ → Bool
is_address addr = nat_le 0x3B0 addr && nat_le addr 0x3BF

-- the value that a read at an address gives, if a register is there
unfoldable pub read_register : PmpState → ℕ → Option ℕ
read_register pmp addr =
    if is_config addr then Some (config_word pmp (4 * (addr - 0x3A0)))
    else (if is_address addr then Some (entry_at pmp (addr - 0x3B0)).address else None)

-- whether an entry is locked and matches by TOR, so that its region begins at the address of the entry before
unfoldable pub is_locked_tor : PmpState → ℕ → Bool
is_locked_tor pmp n = (entry_at pmp n).locked && (matching_code (entry_at pmp n).matching == 1)

-- entry n after a write of a word at an address: byte n % 4 of pmpcfg(n / 4) is its configuration, and
-- pmpaddr(n) its address, which stays as it is if a locked region begins there
abbrev pub written : PmpState → ℕ → ℕ → ℕ → Entry
written pmp addr word n =
    if addr == 0x3A0 + n / 4 then configured (entry_at pmp n) (word / 2 ^ (8 * (n % 4)) % 2 ^ 8)
    else (if (addr == 0x3B0 + n) && not (is_locked_tor pmp (n + 1)) then addressed (entry_at pmp n) word
    else entry_at pmp n)

-- the registers after a write of a word at an address, if a register is there
unfoldable pub write_register : PmpState → ℕ → ℕ → Option PmpState
write_register pmp addr word =
    let entries = map (written pmp addr word) (range_with_len 0 (length pmp.entries)) in
    if is_config addr || is_address addr then Some (record { entries = entries }) else None
