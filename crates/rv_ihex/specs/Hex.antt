-- Files of Intel HEX: each line is a record.
-- To audit: public contracts cite this.
-- Intel Hexadecimal Object File Format Specification, revision A.
use Rattle.std.specs.Prelude.{ℕ, zero, suc, ◌+◌, ◌-◌, ◌*◌, ◌/◌, ◌%◌, ◌==◌, ◌&&◌, List, [], ◌∷◌, ◌++◌, take, drop, get_or, length, Option, Some, None, option_and_then, if◌then◌else◌}
use Rattle.std.specs.List.{sum}
use Rattle.std.specs.Option.{option_map}
use Rattle.rv_base.specs.Digits.{hex_digit}
use Rattle.rv_base.specs.Limits.{ram_base}
use Rattle.rv_base.specs.Lines.{lines}

-- the byte that two digits stand for
abbrev pub byte_at : List ℕ → Option ℕ
byte_at digits = option_and_then
    (λ high. option_map (λ low. 16 * high + low) (hex_digit (get_or digits 1 0)))
    (hex_digit (get_or digits 0 0))

-- that many bytes, and nothing after them
unfoldable pub bytes_of : ℕ → List ℕ → Option (List ℕ)
bytes_of zero digits = if length digits == 0 then Some [] else None
bytes_of (suc n) digits =
    option_and_then (λ b. option_map (λ bs. b ∷ bs) (bytes_of n (drop 2 digits))) (byte_at digits)

-- a record: the low half of the address that its data begins at, its type and its data
pub record Record : Type 0 where
  pub offset : ℕ
  pub kind : ℕ
  pub content : List ℕ

-- the record of bytes: the number of the data's bytes, the offset's two, the type, the data, and a checksum that makes
-- the sum of all a multiple of 256
unfoldable pub record_in : List ℕ → Option Record
record_in bytes =
    if (length bytes == get_or bytes 0 0 + 5) && (sum bytes % 256 == 0) then Some (record {
      offset = 256 * get_or bytes 1 0 + get_or bytes 2 0;
      kind = get_or bytes 3 0;
      content = take (get_or bytes 0 0) (drop 4 bytes);
    })
    else None

-- the record of a line: `:` and bytes
unfoldable pub record_of : List ℕ → Option Record
record_of line =
    if get_or line 0 0 == 58 then option_and_then record_in (bytes_of ((length line - 1) / 2) (drop 1 line)) else None

-- the bytes that records place one after another from an address on, up to the record of the file's end (type 1), where
-- the upper half of addresses is that of the last record for it (type 4)
unfoldable pub placed : ℕ → ℕ → List (List ℕ) → Option (List ℕ)
placed upper next [] = None
placed upper next (line ∷ lines) = option_and_then
    (λ r.
    if r.kind == 1 then Some []
    else if r.kind == 4 then placed (256 * get_or r.content 0 0 + get_or r.content 1 0) next lines
    else if (r.kind == 0) && (65536 * upper + r.offset == next)
    then option_map (λ bs. r.content ++ bs) (placed upper (next + length r.content) lines)
    else None)
    (record_of line)

-- the image that a file places from the beginning of memory on
abbrev pub image_of : List ℕ → Option (List ℕ)
image_of file = placed 0 ram_base (lines file)
