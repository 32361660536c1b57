-- The line number program, which says of each address the line of the source that its bytes are of.
-- To audit: public contracts cite this.
-- DWARF Debugging Information Format, version 4, section 6.2 "Line Number Information", and section 7.6.
use Rattle.std.specs.Prelude.{ℕ, zero, suc, ◌+◌, ◌-◌, ◌*◌, ◌/◌, ◌%◌, ◌≤◌, ◌==◌, Bool, true, false, List, [], ◌∷◌, ◌++◌, take, drop, get_or, length, nat_le, nat_lt, ℤ, pos, ◌+ℤ◌, ◌-ℤ◌, Option, Some, None, if◌then◌else◌}
use Rattle.rv_elf.specs.Elf.{half_at, word_at}
use Rattle.rv_elf.specs.declared.lines.PlacedLine.{PlacedLine}

-- ---- numbers of variable length: section 7.6

-- a number in base 128, the lowest digit first, all but the last of whose bytes have 128 more: its value, the half
-- of 128 ^ the number of its bytes, and what follows them
pub record Leb : Type 0 where
  pub value : ℕ
  pub half : ℕ
  pub rest : List ℕ

unfoldable pub leb : List ℕ → Leb
leb [] = record { value = 0; half = 64; rest = [] }
leb (b ∷ bs) =
    if nat_lt b 128 then record { value = b; half = 64; rest = bs }
    else record { value = b % 128 + 128 * (leb bs).value; half = 128 * (leb bs).half; rest = (leb bs).rest }

-- as two's complement
abbrev pub signed : Leb → ℤ
signed n = if nat_lt n.value n.half then pos n.value else pos n.value -ℤ pos (2 * n.half)

-- ---- registers and rows: section 6.2.2

-- the registers that addresses and lines depend on
pub record Registers : Type 0 where
  pub address : ℕ
  pub file : ℕ
  pub line : ℤ

abbrev pub initial : Registers
initial = record { address = 0; file = 1; line = pos 1 }

-- a row of the table: from its address on, up to that of the next row, the bytes are of its line; the last row of a
-- sequence ends it
pub record Row : Type 0 where
  pub address : ℕ
  pub file : ℕ
  pub line : ℤ
  pub is_end : Bool

abbrev pub row : Registers → Row
row r = record { address = r.address; file = r.file; line = r.line; is_end = false }

abbrev pub end_row : Registers → Row
end_row r = record { address = r.address; file = r.file; line = r.line; is_end = true }

-- ---- the header: section 6.2.4

-- what special opcodes depend on, the number of the first of them, and the number of operands of each standard one
pub record Header : Type 0 where
  pub unit : ℕ
  pub line_base : ℤ
  pub line_range : ℕ
  pub opcode_base : ℕ
  pub operands : List ℕ

abbrev pub byte_at : List ℕ → ℕ → ℕ
byte_at table offset = get_or table offset 0

-- a byte as two's complement
abbrev pub signed_byte : ℕ → ℤ
signed_byte b = if nat_lt b 128 then pos b else pos b -ℤ pos 256

abbrev pub header : List ℕ → Header
header table = record {
  unit = byte_at table 10;
  line_base = signed_byte (byte_at table 13);
  line_range = byte_at table 14;
  opcode_base = byte_at table 15;
  operands = take (byte_at table 15 - 1) (drop 16 table);
}

-- the opcodes and their operands: they follow the header, and end with the unit
abbrev pub program : List ℕ → List ℕ
program table = take (4 + word_at table 0 - (10 + word_at table 6)) (drop (10 + word_at table 6) table)

-- ---- opcodes: section 6.2.5

-- what an opcode does: the registers after it, the rows that it appends, and what follows its operands
pub record Effect : Type 0 where
  pub registers : Registers
  pub rows : List Row
  pub rest : List ℕ

abbrev pub silent : Registers → List ℕ → Effect
silent r rest = record { registers = r; rows = []; rest = rest }

-- a special opcode, less the first: a step of the address and of the line, and a row (6.2.5.1)
abbrev pub special : Header → Registers → ℕ → List ℕ → Effect
special h r adjusted rest =
    let after = record r {
      address = r.address + h.unit * (adjusted / h.line_range);
      line = r.line +ℤ (h.line_base +ℤ pos (adjusted % h.line_range));
    } in
    record { registers = after; rows = row after ∷ []; rest = rest }

-- an extended opcode with its operands: DW_LNE_end_sequence, DW_LNE_set_address; others change nothing (6.2.5.3)
abbrev pub extended : Registers → List ℕ → List ℕ → Effect
extended r operation rest =
    if byte_at operation 0 == 1 then record { registers = initial; rows = end_row r ∷ []; rest = rest }
    else if byte_at operation 0 == 2 then silent (record r { address = word_at operation 1 }) rest
    else silent r rest

-- what follows that many numbers
abbrev pub after_numbers : ℕ → List ℕ → List ℕ
after_numbers zero bs = bs
after_numbers (suc n) bs = after_numbers n (leb bs).rest

-- the opcodes from 0 to 12, which those of the machine's later versions follow (6.2.5.2)
abbrev pub standard : Header → Registers → List ℕ → List Effect
standard h r bs =
    extended r (take (leb bs).value (leb bs).rest) (drop (leb bs).value (leb bs).rest)
    -- DW_LNS_copy, DW_LNS_advance_pc, DW_LNS_advance_line, DW_LNS_set_file
    ∷ record { registers = r; rows = row r ∷ []; rest = bs }
    ∷ silent (record r { address = r.address + h.unit * (leb bs).value }) (leb bs).rest
    ∷ silent (record r { line = r.line +ℤ signed (leb bs) }) (leb bs).rest
    ∷ silent (record r { file = (leb bs).value }) (leb bs).rest
    -- DW_LNS_set_column, DW_LNS_negate_stmt, DW_LNS_set_basic_block
    ∷ silent r (leb bs).rest
    ∷ silent r bs
    ∷ silent r bs
    -- DW_LNS_const_add_pc, DW_LNS_fixed_advance_pc
    ∷ silent (record r { address = r.address + h.unit * ((255 - h.opcode_base) / h.line_range) }) bs
    ∷ silent (record r { address = r.address + half_at bs 0 }) (drop 2 bs)
    -- DW_LNS_set_prologue_end, DW_LNS_set_epilogue_begin, DW_LNS_set_isa
    ∷ silent r bs
    ∷ silent r bs
    ∷ silent r (leb bs).rest
    ∷ []

-- what an opcode does; of one that isn't known the header says the number of operands
unfoldable pub effect : Header → Registers → ℕ → List ℕ → Effect
effect h r op bs =
    if nat_le h.opcode_base op then special h r (op - h.opcode_base) bs
    else get_or (standard h r bs) op (silent r (after_numbers (get_or h.operands (op - 1) 0) bs))

-- the rows that a program appends in that many opcodes at most
unfoldable pub run : ℕ → Header → Registers → List ℕ → List Row
run zero h r bs = []
run (suc most) h r [] = []
run (suc most) h r (op ∷ bs) =
    (effect h r op bs).rows ++ run most h (effect h r op bs).registers (effect h r op bs).rest

-- the rows of the first unit of a section, if it is of version 4
unfoldable pub rows : List ℕ → Option (List Row)
rows table =
    if half_at table 4 == 4 then Some (run (length (program table)) (header table) initial (program table)) else None

-- ---- what a table is to say

-- lines from one on, each no less than the one before it
abbrev pub Rises : ℕ → List PlacedLine → Type 0
Rises from [] = Unit
Rises from (l ∷ ls) = (from ≤ l.line) × Rises l.line ls

-- the row of a line
abbrev pub row_of : PlacedLine → Row
row_of l = record { address = l.address; file = 1; line = pos l.line; is_end = false }

-- the rows of lines after one, and of the end of the last one's bytes
unfoldable pub rows_after : ℕ → List PlacedLine → ℕ → List Row
rows_after from [] end = record { address = end; file = 1; line = pos from; is_end = true } ∷ []
rows_after from (l ∷ ls) end = row_of l ∷ rows_after l.line ls end
