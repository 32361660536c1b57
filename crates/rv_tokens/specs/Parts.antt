-- The parts of a line: its tokens, each the longest at its place, with blanks between them and at most one
-- comment.
--
-- To audit: public contracts cite this.
-- The language is this project's own: docs/ASSEMBLER.md.
use Rattle.std.specs.Prelude.{◌≡◌, ℕ, ◌<◌, ◌≤◌, nat_lt, true, false, List, [], ◌∷◌, length, drop, Some, None, Result, Ok, Err, MatchBool}
use Rattle.rv_tokens.specs.declared.token.Token.{Token}
use Rattle.rv_tokens.specs.declared.fault.LineFault.{LineFault}
use Rattle.rv_tokens.specs.declared.fault.LineFault.TheVariants.{LineTooLong}
use Rattle.rv_base.specs.Limits.{line_limit}
use Rattle.rv_base.specs.Words.{is_blank}
use Rattle.rv_tokens.specs.Faults.{◌>>=◌}
use Rattle.rv_tokens.specs.Tokens.{token_in, is_comment, fault_at}

-- A line is cut into tokens from left to right, each the longest at its place, up to the end or a comment; or
-- it has the fault of the first byte at which nothing begins.
pub data IsCut : List ℕ → Result (List Token) LineFault → Type 0 where
  Ended : IsCut [] (Ok [])
  Comment : (line : List ℕ) → is_comment line ≡ true → IsCut line (Ok [])
  Blank : (b : ℕ) (rest : List ℕ) (r : Result (List Token) LineFault) → is_blank b ≡ true → IsCut rest r
      → IsCut (b ∷ rest) r
  Longest : (line : List ℕ) (n : ℕ) (t : Token) (r : Result (List Token) LineFault) → n ≤ length line
      → token_in line n ≡ Some t → ((m : ℕ) → n < m → m ≤ length line → token_in line m ≡ None)
      → IsCut (drop n line) r → IsCut line (r >>= λ ts. Ok (t ∷ ts))
  Nothing : (b : ℕ) (rest : List ℕ) → is_blank b ≡ false → is_comment (b ∷ rest) ≡ false
      → ((n : ℕ) → n ≤ length (b ∷ rest) → token_in (b ∷ rest) n ≡ None) → IsCut (b ∷ rest) (Err (fault_at b))

-- The same of a line of at most 1,024 bytes; a longer one has no tokens. `tokens` gives the cut of each line,
-- which has no other: the law `one_cut`.
abbrev pub IsCutInto : List ℕ → Result (List Token) LineFault → Type 0
IsCutInto line r = MatchBool (nat_lt line_limit (length line)) (r ≡ Err LineTooLong) (IsCut line r)
