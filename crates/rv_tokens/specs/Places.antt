-- The places of the tokens of a line.
-- To audit: public contracts cite this.
-- The language is this project's own: docs/ASSEMBLER.md.
use Rattle.std.specs.Prelude.{ℕ, zero, suc, pred, ◌-◌, List, [], ◌∷◌, length, if◌then◌else◌, Option, Some, None}
use Rattle.rv_base.specs.Words.{is_blank}
use Rattle.rv_tokens.specs.declared.place.Place.{Place}
use Rattle.rv_tokens.specs.declared.token.Token.{Token}
use Rattle.rv_tokens.specs.Literals.{longest}
use Rattle.rv_tokens.specs.Tokens.{token_in, is_comment}

-- the longest token at the front of a line, and its length
abbrev pub front : List ℕ → Option (Token × ℕ)
front line = longest (token_in line) (length line)

-- the places of the tokens that stand after the first n of these bytes, the last of the `total` bytes of a line: a
-- place is the number of bytes before the token, and the number of its own
unfoldable pub places_after : ℕ → List ℕ → ℕ → List Place
places_after total [] n = []
places_after total (b ∷ bs) (suc n) = places_after total bs n
places_after total (b ∷ bs) zero =
    if is_blank b then places_after total bs zero
    else (if is_comment (b ∷ bs) then []
    else (elim (front (b ∷ bs)) as (λ _. List Place) [
      | None ↦ []
      | Some found ↦ record { column = total - length (b ∷ bs); len = found.1 }
          ∷ places_after total bs (pred found.1)
    ]))

-- the places of the tokens of a line
abbrev pub places : List ℕ → List Place
places line = places_after (length line) line 0
