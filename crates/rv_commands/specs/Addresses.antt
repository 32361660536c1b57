-- To audit: public contracts cite this.
-- The addresses of commands.
-- The language is this project's own: docs/MONITOR.md.
use Rattle.std.specs.Prelude.{ℕ, ◌^◌, ℤ, List, length, drop, if◌then◌else◌, nat_eq, nat_le, Option, None, codes}
use Rattle.std.specs.Option.{option_map}
use Rattle.std.specs.List.{starts_with}
use Rattle.rv_isa.specs.Number.{modulo}
use Rattle.rv_base.specs.Numbers.{number_in}

-- one to eight hexadecimal digits
unfoldable pub hexadecimal : List ℕ → Option ℕ
hexadecimal digits = if nat_le (length digits) 8 then number_in 16 0xffffffff digits else None

-- ADDR: `0x` and one to eight hexadecimal digits, or a symbol, modulo 2 ^ 32; symbols gives the value of each
-- name that has one
unfoldable pub address_of : (List ℕ → Option ℤ) → List ℕ → Option ℕ
address_of symbols word =
    if starts_with nat_eq word (codes "0x") then hexadecimal (drop 2 word)
    else option_map (λ value. modulo value (2 ^ 32)) (symbols word)
