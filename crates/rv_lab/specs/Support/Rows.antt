-- Not to audit: private contracts alone cite this.
-- Parts of the answers, as the code finds them.
use Rattle.std.specs.Prelude.{ℕ, ◌+◌, ◌*◌, ◌%◌, ◌^◌, ◌==◌, ◌&&◌, List, [], ◌∷◌, find, if◌then◌else◌, not, Option, None, unwrap_or}
use Rattle.std.specs.List.{position_or_len, range_with_len}
use Rattle.std.specs.Option.{option_map}
use Rattle.rv_isa.specs.Number.{flag}
use Rattle.rv_pmp.specs.Mode.{is_machine}
use Rattle.rv_board.specs.BoardState.{BoardState, csr_of}
use Rattle.rv_monitor.specs.Views.{byte_at_offset, word_at}

-- ---- `dev`

-- the cause of the interrupt that is taken next, by the words of mstatus, mie and mip
unfoldable pub first_pending : BoardState → Option ℕ
first_pending b =
    let csr : ℕ → ℕ = λ n. unwrap_or (csr_of b n) 0 in
    if is_machine b.machine.mode && not (flag (csr 0x300) 3) then None else option_map (λ code. 2 ^ 31 + code)
    (find (λ code. flag (csr 0x344) code && flag (csr 0x304) code) (11 ∷ 3 ∷ 7 ∷ []))

-- ---- `m`

-- word i from an address on
abbrev pub word_cell : BoardState → ℕ → ℕ → Option ℕ
word_cell b a i = word_at b ((a + 4 * i) % 2 ^ 32)

-- the bytes, of n, before a zero or the end of memory
abbrev pub char_at : BoardState → ℕ → ℕ → ℕ
char_at b a offset = unwrap_or (byte_at_offset b a offset) 0

unfoldable pub text_length : BoardState → ℕ → ℕ → ℕ
text_length b a n = position_or_len (λ offset. char_at b a offset == 0) (range_with_len 0 n)
