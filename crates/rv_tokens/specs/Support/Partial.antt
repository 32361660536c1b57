-- What the lexer asks of a byte or a short text, each by tests in their order; and the faults of results. The
-- language is this project's own: docs/ASSEMBLER.md.
-- Not to audit: private contracts alone cite this.
use Rattle.std.specs.Prelude.{ℕ, Bool, not, ◌&&◌, ◌||◌, ◌≡◌, List, length, take, ◌==◌, nat_le, nat_lt, Option, slice_index, Result, Err}
use Rattle.rv_tokens.specs.declared.fault.LineFault.{LineFault}
use Rattle.rv_tokens.specs.declared.fault.LineFault.TheVariants.{OutOfMemory}
use Rattle.rv_tokens.specs.Literals.{longest, spelled, bytes_after}

-- a fault is the one meant, unless memory ran out
abbrev pub Fails : {B : Type 0} → LineFault → Result B LineFault → Type 0
Fails OutOfMemory meaning = Unit {0}
Fails fault meaning = meaning ≡ Err fault

-- whether a text begins with `0` and a letter in either case
abbrev pub has_prefix : ℕ → ℕ → List ℕ → Bool
has_prefix lower upper text =
    nat_lt 1 (length text)
    && ((slice_index text 0 == 48) && ((slice_index text 1 == lower) || (slice_index text 1 == upper)))

-- whether a byte stands for itself between two quotes
abbrev pub is_plain : ℕ → ℕ → Bool
is_plain quote b =
    ((nat_le 32 b && nat_le b 126) || ((quote == 34) && ((b == 9) || nat_le 128 b))) && not (b == quote)

-- the first byte of a string, and the length of its text
abbrev pub first_byte : List ℕ → Option (ℕ × ℕ)
first_byte text = longest (λ n. spelled 34 (take n text)) (length text)

-- the bytes of a string, by the text between its quotes
abbrev pub string_bytes : List ℕ → Option (List ℕ)
string_bytes spelling = bytes_after spelling 0
