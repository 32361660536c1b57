-- Not to audit: private contracts alone cite this.
-- Parts of the texts that commands print.
use Rattle.std.specs.Prelude.{ℕ, ◌+◌, ◌-◌, ◌*◌, ◌%◌, ◌^◌, List, ◌++◌, min, Option, Some, None, codes}
use Rattle.std.specs.Option.{option_map_or}
use Rattle.rv_base.specs.Digits.{hex}
use Rattle.rv_isa.specs.Support.Meaning.{means}
use Rattle.rv_isa.specs.Text.{text}
use Rattle.rv_board.specs.Support.State.{BoardState}
use Rattle.rv_monitor.specs.Views.{byte_at_offset, bytes_line}

-- a label with a word, as the lines of traps have three
unfoldable pub labelled : List ℕ → ℕ → List ℕ
labelled label word = label ++ hex 8 word

-- a byte, or `--` where there is no memory
abbrev pub byte_text : Option ℕ → List ℕ
byte_text byte = option_map_or (hex 2) byte (codes "--")

-- a byte in its line: a space, and the byte
unfoldable pub byte_in_line : BoardState → ℕ → ℕ → List ℕ
byte_in_line b addr offset = codes " " ++ byte_text (byte_at_offset b addr offset)

-- line k of a dump of `count` bytes
abbrev pub memory_line : BoardState → ℕ → ℕ → ℕ → List ℕ
memory_line b addr count k = bytes_line b ((addr + 16 * k) % 2 ^ 32) (min 16 (count - 16 * k))

-- a word and its instruction, or `illegal` where no instruction has the word; `--------` where there is no
-- word
abbrev pub word_text : Option ℕ → List ℕ
word_text word =
    option_map_or (λ w. hex 8 w ++ codes " " ++ option_map_or text (means w) (codes "illegal")) word
    (codes "--------")

-- the word of four bytes, low one first, if there is memory for all
abbrev pub word_from : Option ℕ → Option ℕ → Option ℕ → Option ℕ → Option ℕ
word_from (Some b0) (Some b1) (Some b2) (Some b3) = Some (b0 + 256 * b1 + 65536 * b2 + 16777216 * b3)
word_from _ _ _ _ = None
