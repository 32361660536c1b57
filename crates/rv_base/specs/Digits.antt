-- To audit: public contracts cite this.
-- Numbers in hexadecimal: written in lower case, and read in both.
use Rattle.std.specs.Prelude.{ℕ, zero, suc, ◌/◌, ◌%◌, ◌^◌, List, [], ◌∷◌, ◌++◌, false, codes, if◌then◌else◌, Option, Some, None}
use Rattle.std.specs.Char as char
use Rattle.std.specs.Fmt.{digits}
use Rattle.std.specs.Option.{unwrap_or}
pub use Rattle.std.specs.Char.{digit_char as digit}

-- the digits of a number at that many places, the highest first
unfoldable pub hex : ℕ → ℕ → List ℕ
hex zero n = []
hex (suc places) n = digit (n / 16 ^ places % 16) ∷ hex places n

-- `0x` and the digits without leading zeros, as `0xf11`
abbrev pub short_hex : ℕ → List ℕ
short_hex n = codes "0x" ++ digits 16 false n

-- `0` to `9`, `A` to `F`, `a` to `f`
unfoldable pub hex_digit : ℕ → Option ℕ
hex_digit b = if char.is_digit b 16 then Some (char.digit_value b) else None

-- the value of a digit, or 16 for any other byte
abbrev pub digit_value : ℕ → ℕ
digit_value b = unwrap_or (hex_digit b) 16
