-- The spelling of tokens, and what begins none.
-- To audit: public contracts cite this.
-- The language is this project's own: docs/ASSEMBLER.md.
use Rattle.std.specs.Prelude.{ℕ, ◌-◌, Bool, ◌&&◌, ◌||◌, List, [], ◌∷◌, length, take, drop, if◌then◌else◌, ◌==◌, nat_eq, nat_le, option_and_then, Option, Some, None, slice_index, codes}
use Rattle.std.specs.List.{list_all, starts_with}
use Rattle.std.specs.Option.{option_map, option_or}
use Rattle.std.specs.Char.{is_ascii_digit, is_ascii_alphabetic}
use Rattle.rv_base.specs.Tables.{lookup}
use Rattle.rv_tokens.specs.declared.token.Direction.TheVariants.{Backward, Forward}
use Rattle.rv_tokens.specs.declared.token.Token.{Token}
use Rattle.rv_tokens.specs.declared.token.Token.TheVariants.{Name, Digits, Number, Local, Character, Text, Comma, Open, Close, Plus, Minus, Colon, At, High, Low}
use Rattle.rv_tokens.specs.declared.fault.LineFault.{LineFault}
use Rattle.rv_tokens.specs.declared.fault.LineFault.TheVariants.{BadByte, Syntax}
use Rattle.rv_tokens.specs.Literals.{number, short_decimal, between, spelled, bytes_after}

-- ---- the spelling of a token

-- the first byte of a name: a letter, `_`, `.` or `$`
abbrev pub is_name_start : ℕ → Bool
is_name_start b = is_ascii_alphabetic b || ((b == 95) || ((b == 46) || (b == 36)))

-- any other byte of a name
abbrev pub is_name_byte : ℕ → Bool
is_name_byte b = is_name_start b || is_ascii_digit b

-- a reference to a local label: a short number, and `b` or `f`
unfoldable pub local : List ℕ → Option Token
local text =
    let end = length text - 1 in
    option_and_then (λ d. option_map (λ n. Local n d) (short_decimal (take end text)))
    (lookup (drop end text) ((codes "b", Backward) ∷ (codes "f", Forward) ∷ []))

-- a word, a text of name bytes: a name, or if it begins with a digit a local reference or a number
unfoldable pub word : List ℕ → Option Token
word text =
    if is_name_start (slice_index text 0) then Some (Name text)
    else option_or (local text)
    (option_or (option_map (λ n. Digits n) (short_decimal text)) (option_map (λ n. Number n) (number text)))

-- the signs
abbrev pub signs : List (List ℕ × Token)
signs =
    (codes ",", Comma) ∷ (codes "(", Open) ∷ (codes ")", Close) ∷ (codes "+", Plus) ∷ (codes "-", Minus)
    ∷ (codes ":", Colon) ∷ (codes "@", At) ∷ (codes "%hi", High) ∷ (codes "%lo", Low) ∷ []

-- the token that a text as a whole spells: a word, a string, a character or a sign
unfoldable pub token_of : List ℕ → Option Token
token_of text =
    if list_all is_name_byte text then word text
    else option_or (option_map (λ s. Text s) (option_and_then (λ t. bytes_after t 0) (between 34 34 text)))
    (option_or (option_map (λ b. Character b) (option_and_then (spelled 39) (between 39 39 text))) (lookup text signs))

-- ---- in a line

-- the token that the first n bytes of a line spell: no name byte directly follows one
unfoldable pub token_in : List ℕ → ℕ → Option Token
token_in line n =
    if is_name_byte (slice_index line (n - 1)) && is_name_byte (slice_index line n) then None
    else token_of (take n line)

-- a comment begins with `#` or `//`
abbrev pub is_comment : List ℕ → Bool
is_comment line = starts_with nat_eq line (codes "#") || starts_with nat_eq line (codes "//")

-- the fault at a byte where no token begins
abbrev pub fault_at : ℕ → LineFault
fault_at b = if (b == 9) || (nat_le 32 b && nat_le b 126) then Syntax else BadByte
