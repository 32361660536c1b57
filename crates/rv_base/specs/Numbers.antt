-- To audit: public contracts cite this.
-- Numbers, as they are read.
use Rattle.std.specs.Prelude.{ℕ, ◌+◌, ◌*◌, ◌&&◌, List, length, fold, if◌then◌else◌, ◌==◌, nat_le, nat_lt, Option, Some, None}
use Rattle.std.specs.List.{list_all}
pub use Rattle.rv_base.specs.Digits.{digit_value}
unfoldable pub use Rattle.rv_base.specs.Digits.{hex_digit}

-- one or more digits in a base of at most 16, the highest first, of a value no more than this
unfoldable pub number_in : ℕ → ℕ → List ℕ → Option ℕ
number_in base most digits =
    let value = fold (λ v b. base * v + digit_value b) 0 digits in
    if nat_le 1 (length digits) && (list_all (λ b. nat_lt (digit_value b) base) digits && nat_le value most)
    then Some value else None

-- two hexadecimal digits
unfoldable pub hex_byte : List ℕ → Option ℕ
hex_byte word = if length word == 2 then number_in 16 255 word else None
