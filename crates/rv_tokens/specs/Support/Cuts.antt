-- The tokens of a line, as the lexer finds them.
-- Not to audit: a law says all that `tokens` is (`one_cut`).
-- The language is this project's own: docs/ASSEMBLER.md.
use Rattle.std.specs.Prelude.{ℕ, zero, suc, pred, List, [], ◌∷◌, ◌++◌, length, if◌then◌else◌, nat_lt, Some, None, Result, Ok, Err}
use Rattle.rv_base.specs.Limits.{line_limit}
use Rattle.rv_base.specs.Words.{is_blank}
use Rattle.rv_tokens.specs.declared.token.Token.{Token}
use Rattle.rv_tokens.specs.declared.fault.LineFault.{LineFault}
use Rattle.rv_tokens.specs.declared.fault.LineFault.TheVariants.{LineTooLong}
use Rattle.rv_tokens.specs.Faults.{◌>>=◌}
use Rattle.rv_tokens.specs.Tokens.{is_comment, fault_at}
pub use Rattle.rv_tokens.specs.Places.{front, places}
unfoldable pub use Rattle.rv_tokens.specs.Places.{places_after}

-- tokens in front of the others, unless there is a fault
unfoldable pub with_tokens : List Token → Result (List Token) LineFault → Result (List Token) LineFault
with_tokens ts r = r >>= λ us. Ok (ts ++ us)

-- the tokens of a line after its first n bytes, from left to right
unfoldable pub tokens_after : List ℕ → ℕ → Result (List Token) LineFault
tokens_after [] n = Ok []
tokens_after (b ∷ bs) (suc n) = tokens_after bs n
tokens_after (b ∷ bs) zero =
    if is_blank b then tokens_after bs zero
    else (if is_comment (b ∷ bs) then Ok []
    else (elim (front (b ∷ bs)) as (λ _. Result (List Token) LineFault) [
      | None ↦ Err (fault_at b)
      | Some found ↦ with_tokens (found.0 ∷ []) (tokens_after bs (pred found.1))
    ]))

-- the tokens of a line of at most 1,024 bytes
unfoldable pub tokens : List ℕ → Result (List Token) LineFault
tokens line = if nat_lt line_limit (length line) then Err LineTooLong else tokens_after line 0
