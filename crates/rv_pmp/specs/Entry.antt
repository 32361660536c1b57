-- An entry of physical memory protection, and the bytes that it protects.
-- RISC-V Privileged Architecture 20211203, section 3.7.1.
-- To audit: public contracts cite this.
use Rattle.std.specs.Prelude.{ℕ, ◌+◌, ◌*◌, ◌/◌, ◌%◌, ◌^◌, Bool, false, ◌==◌, ◌&&◌, ◌||◌, not, nat_le, nat_lt, if◌then◌else◌, [], ◌∷◌, slice_index_or}
use Rattle.std.specs.List.{prefix_len, range_with_len}
use Rattle.rv_isa.specs.Number.{flag, truth}
use Rattle.rv_pmp.specs.declared.access.Access.{Access}
use Rattle.rv_pmp.specs.declared.access.Access.TheVariants.{Read, Write, Execute}
use Rattle.rv_pmp.specs.declared.entry.Entry.{Entry}
use Rattle.rv_pmp.specs.declared.entry.Matching.{Matching}
use Rattle.rv_pmp.specs.declared.entry.Matching.TheVariants.{Off, Tor, Na4, Napot}
use Rattle.rv_pmp.specs.declared.mode.Mode.{Mode}
use Rattle.rv_pmp.specs.declared.mode.Mode.TheVariants.{User, Machine}

-- ---- the configuration byte: R in bit 0, W in bit 1, X in bit 2, A in bits 4 and 3, L in bit 7; bits 6 and
-- 5 are zero

-- the value of the field A
abbrev pub matching_code : Matching → ℕ
matching_code Off = 0
matching_code Tor = 1
matching_code Na4 = 2
matching_code Napot = 3

-- the way to match that a value of the field A stands for
unfoldable pub matching_of : ℕ → Matching
matching_of code = slice_index_or (Off ∷ Tor ∷ Na4 ∷ Napot ∷ []) code Napot

-- the configuration byte as it is read
unfoldable pub config_byte : Entry → ℕ
config_byte entry =
    truth entry.readable + truth entry.writable * 2 + truth entry.executable * 4
    + matching_code entry.matching * 8 + truth entry.locked * 128

-- the entry after a write to its configuration byte, unless it is locked; W is kept only together with R
unfoldable pub configured : Entry → ℕ → Entry
configured entry byte =
    if entry.locked then entry else record entry {
      readable = flag byte 0;
      writable = flag byte 0 && flag byte 1;
      executable = flag byte 2;
      matching = matching_of (byte / 2 ^ 3 % 4);
      locked = flag byte 7;
    }

-- the entry after a write to its address register, unless it is locked
unfoldable pub addressed : Entry → ℕ → Entry
addressed entry word = if entry.locked then entry else record entry { address = word }

-- the bit for a kind of access: R, W or X
abbrev pub bit_for : Entry → Access → Bool
bit_for entry Read = entry.readable
bit_for entry Write = entry.writable
bit_for entry Execute = entry.executable

-- whether the entry permits a mode an access whose bytes are all in its region. It binds user mode always, and
-- machine mode only if it is locked
abbrev pub permits : Entry → Mode → Access → Bool
permits entry User access = bit_for entry access
permits entry Machine access = not entry.locked || bit_for entry access

-- ---- the bytes that an entry matches: natural numbers without limit. An address register holds an address
-- divided by 4

-- the number of ones in which an address register ends
abbrev pub trailing_ones : ℕ → ℕ
trailing_ones address = prefix_len (flag address) (range_with_len 0 32)

-- whether a byte is matched, where `lower` is the address register of the entry before. TOR: the bytes from
-- the address of the entry before up to but not including the entry's own. NA4: the four bytes at its
-- address. NAPOT with k trailing ones: the 2 ^ (k + 3) bytes whose addresses differ in the lowest bits alone
abbrev pub matched : Matching → ℕ → ℕ → ℕ → Bool
matched Off lower address byte = false
matched Tor lower address byte = nat_le lower (byte / 4) && nat_lt (byte / 4) address
matched Na4 lower address byte = byte / 4 == address
matched Napot lower address byte =
    let k = trailing_ones address in byte / 2 ^ (k + 3) == address / 2 ^ (k + 1)
