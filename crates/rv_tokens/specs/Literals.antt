-- The spelling of numbers, characters and strings.
-- To audit: public contracts cite this.
-- The language is this project's own: docs/ASSEMBLER.md.
use Rattle.std.specs.Prelude.{ℕ, zero, suc, pred, ◌-◌, Bool, not, ◌&&◌, ◌||◌, List, [], ◌∷◌, length, take, drop, if◌then◌else◌, ◌==◌, nat_le, nat_lt, Option, Some, None, option_and_then, slice_index, codes}
use Rattle.std.specs.Option.{option_map, option_map_or, option_or}
use Rattle.rv_base.specs.Numbers.{hex_byte, number_in}
use Rattle.rv_base.specs.Tables.{lookup}

-- Of the prefixes of a text up to n bytes, the longest that spells something: what it spells, and its length.
-- `spells n` is what the prefix of n bytes spells.
unfoldable pub longest : {A : Type 0} → (ℕ → Option A) → ℕ → Option (A × ℕ)
longest spells zero = None
longest spells (suc n) = option_or (option_map (λ x. (x, suc n)) (spells (suc n))) (longest spells n)

-- ---- numbers

-- whether a text begins with `0` and goes on
abbrev pub has_leading_zero : List ℕ → Bool
has_leading_zero text = nat_lt 1 (length text) && (slice_index text 0 == 48)

-- a number: a prefix and digits in its base, `0` and octal digits, or decimal digits without a leading zero
unfoldable pub number : List ℕ → Option ℕ
number text =
    let prefixes = (codes "0x", 16) ∷ (codes "0X", 16) ∷ (codes "0b", 2) ∷ (codes "0B", 2) ∷ [] in
    option_map_or (λ base. number_in base 0xffffffff (drop 2 text)) (lookup (take 2 text) prefixes)
    (if has_leading_zero text then number_in 8 0xffffffff (drop 1 text) else number_in 10 0xffffffff text)

-- a short number: one to four decimal digits without a leading zero, which is a decimal up to 9999
unfoldable pub short_decimal : List ℕ → Option ℕ
short_decimal text = if has_leading_zero text then None else number_in 10 9999 text

-- ---- characters and strings

-- the bytes of `\n`, `\t`, `\r`, `\b`, `\f`, `\\`, `\"` and `\'`
abbrev pub letters : List (List ℕ × ℕ)
letters =
    (codes "n", 10) ∷ (codes "t", 9) ∷ (codes "r", 13) ∷ (codes "b", 8) ∷ (codes "f", 12)
    ∷ (codes "\\", 92) ∷ (codes "\"", 34) ∷ (codes "'", 39) ∷ []

-- an escape without its `\`: a letter, `x` and two hexadecimal digits, or one to three octal digits of a byte
unfoldable pub escape : List ℕ → Option ℕ
escape text =
    if slice_index text 0 == 120 then hex_byte (drop 1 text)
    else (if nat_lt 3 (length text) then None else option_or (lookup text letters) (number_in 8 255 text))

-- the byte that a text as a whole spells between two quotes: an escape, or a byte that stands for itself,
-- 0x20 to 0x7E but this quote, and in a string a tab and 0x80 to 0xFF
unfoldable pub spelled : ℕ → List ℕ → Option ℕ
spelled quote [] = None
spelled quote (b ∷ bs) =
    let in_string = (quote == 34) && ((b == 9) || nat_le 128 b) in
    let is_plain = ((nat_le 32 b && nat_le b 126) || in_string) && not (b == quote) in
    if b == 92 then escape bs else (if is_plain && (length bs == 0) then Some b else None)

-- what stands between two signs, the first and the last byte of a text
abbrev pub between : ℕ → ℕ → List ℕ → Option (List ℕ)
between left right text =
    if nat_lt 1 (length text) && ((slice_index text 0 == left) && (slice_index text (length text - 1) == right))
    then Some (drop 1 (take (length text - 1) text))
    else None

-- the bytes of a string, by the text between its quotes without its first n bytes. The longest part there that spells
-- a byte gives the first, and the text without that part gives the others; n counts what is left of the part
unfoldable pub bytes_after : List ℕ → ℕ → Option (List ℕ)
bytes_after [] n = Some []
bytes_after (b ∷ bs) (suc n) = bytes_after bs n
bytes_after (b ∷ bs) zero =
    option_and_then (λ found. option_map (λ cs. found.0 ∷ cs) (bytes_after bs (pred found.1)))
    (longest (λ n. spelled 34 (take n (b ∷ bs))) (length (b ∷ bs)))
