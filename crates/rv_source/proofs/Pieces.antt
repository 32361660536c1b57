-- Cutting operands at commas, one by one.
use Rattle.std.proofs.Common.{◌≡◌, ℕ, ◌+◌, ◌-◌, ◌≤◌, Bool, List, [], ◌∷◌, length, take, drop, refl, append_assoc, rules}
use Rattle.std.proofs.Math.Numerals.{one-add}
use Rattle.std.specs.Prelude.{◌++◌, Some}
use Rattle.std.specs.Option.{option_map, unwrap_or}
use Rattle.std.specs.List.{position_or_len, position}
use Rattle.std.proofs.lemmas.List.{take_all}
use Rattle.std.proofs.lemmas.List.Sums.{prefix_len-le-length}
use Rattle.rv_tokens.specs.declared.token.Token.{Token}
use Rattle.rv_source.specs.declared.operand.Form.{Form}
use Rattle.rv_source.specs.declared.operand.Operand.{Operand}
use Rattle.rv_source.specs.Operands.{is_comma, operands}
use Rattle.rv_source.specs.Support.Forms.{form_of}
use Rattle.rv_source.specs.Support.Partial.{pieces, pieces_after}

-- the number of tokens before the first comma
abbrev pub until_comma : List Token → ℕ
until_comma ts = position_or_len is_comma ts

front_step : (t : Token) (ts : List Token) (b : Bool) → is_comma t ≡ b
    → pieces ts ≡ take (until_comma ts) ts ∷ pieces_after (drop (until_comma ts) ts)
    → pieces (t ∷ ts) ≡ take (until_comma (t ∷ ts)) (t ∷ ts) ∷ pieces_after (drop (until_comma (t ∷ ts)) (t ∷ ts))
front_step t ts b e h = search (rules, one-add)

front : (ts : List Token) → pieces ts ≡ take (until_comma ts) ts ∷ pieces_after (drop (until_comma ts) ts)
front [] = refl
front (t ∷ ts) = front_step t ts (is_comma t) refl (front ts)

-- the pieces of tokens that are cut at the first comma, or at their end
pub cut_at : (ts : List Token) (n : ℕ) → n ≡ unwrap_or (position is_comma ts) (length ts)
    → pieces ts ≡ take n ts ∷ pieces_after (drop n ts)
cut_at ts n e = search (rules, prefix_len-le-length, front)

-- what follows a piece, without its comma
pub after_comma : (ts : List Token) → 1 ≤ length ts → pieces_after ts ≡ pieces (take (length ts - 1) (drop 1 ts))
after_comma ts h = search (rules, take_all)

-- the operands of a piece and others, after some that are read
pub operands_more : (old : List Operand) (n : ℕ) (piece : List Token) (others : List (List Token)) (form : Form)
    → form_of piece ≡ Some form → option_map (λ xs. old ++ xs) (operands n (piece ∷ others))
    ≡ option_map (λ xs. (old ++ record { first = n; count = length piece; form = form } ∷ []) ++ xs)
    (operands (n + length piece + 1) others)
unfolding operands
operands_more old n piece others form e = search (rules, append_assoc)
