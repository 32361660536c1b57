-- To audit: public contracts cite this.
-- The numbers of a packet (Debugging with GDB, appendix "GDB Remote Serial Protocol", "Overview": hexadecimal digits).
use Rattle.std.specs.Prelude.{ℕ, ◌+◌, ◌==◌, List, [], ◌∷◌, take, drop, Option, Some, None, option_and_then}
use Rattle.std.specs.List.{position}
use Rattle.std.specs.Option.{option_map, option_map_or}
use Rattle.rv_base.specs.Numbers.{number_in, hex_byte}

-- what comes before the first byte of a value, and what comes after it
unfoldable pub before : ℕ → List ℕ → List ℕ
before byte text = option_map_or (λ n. take n text) (position (λ b. b == byte) text) text

unfoldable pub behind : ℕ → List ℕ → List ℕ
behind byte text = option_map_or (λ n. drop (n + 1) text) (position (λ b. b == byte) text) []

-- `,`
abbrev pub comma : ℕ
comma = 0x2c

-- a number of 32 bits; two and three with commas between them
abbrev pub number : List ℕ → Option ℕ
number digits = number_in 16 0xffffffff digits

unfoldable pub pair : List ℕ → Option (ℕ × ℕ)
pair text = option_and_then (λ a. option_map (λ b. (a, b)) (number (behind comma text))) (number (before comma text))

unfoldable pub triple : List ℕ → Option (ℕ × ℕ × ℕ)
triple text = option_and_then (λ a. option_map (λ p. (a, p.0, p.1)) (pair (behind comma text))) (number (before comma text))

-- bytes, two digits each
unfoldable pub bytes_of : List ℕ → Option (List ℕ)
bytes_of [] = Some []
bytes_of (high ∷ low ∷ more) = option_and_then (λ b. option_map (λ bs. b ∷ bs) (bytes_of more)) (hex_byte (high ∷ low ∷ []))
bytes_of (odd ∷ []) = None
