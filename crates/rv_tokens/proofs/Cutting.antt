-- Cutting a line, token by token; and where the tokens stand.
use Rattle.std.proofs.lemmas.Grind.{common_steps}
use Rattle.std.proofs.lemmas.Bool.Decides.{nat_tests}
use Rattle.std.proofs.Common.{sym, ◌+◌, ◌≤◌, length-append, length-drop, ◌≡◌, ℕ, zero, suc, ◌-◌, ◌<◌, true, false, List, [], ◌∷◌, ◌++◌, length, drop, get_or, refl, ap, arith, append_assoc, append-nil, rules}
use Rattle.std.specs.Prelude.{None, Some, Result, Ok, Err, slice_get}
use Rattle.rv_tokens.specs.declared.token.Token.{Token}
use Rattle.rv_tokens.specs.declared.fault.LineFault.{LineFault}
use Rattle.rv_tokens.specs.Support.Partial.{Fails}
use Rattle.rv_base.specs.Words.{is_blank}
use Rattle.rv_tokens.specs.Literals.{longest}
use Rattle.rv_tokens.specs.Support.Cuts.{front, tokens_after, with_tokens, places_after}
use Rattle.rv_tokens.specs.Tokens.{is_comment, fault_at, token_in}
use Rattle.rv_tokens.proofs.Longest.{longest_found}

cut_drop : (line : List ℕ) (n : ℕ) → tokens_after line n ≡ tokens_after (drop n line) 0
unfolding tokens_after
cut_drop line zero = refl
cut_drop [] (suc n) = refl
cut_drop (b ∷ bs) (suc n) = cut_drop bs n

pub cut_end : (line : List ℕ) → length line ≡ 0 → tokens_after line 0 ≡ Ok []
unfolding tokens_after
cut_end line h = grind (arith, nat_tests, common_steps)

pub cut_blank : (line : List ℕ) → is_blank (get_or line 0 0) ≡ true → tokens_after line 0 ≡ tokens_after (drop 1 line) 0
unfolding tokens_after
cut_blank line e = search rules

pub cut_comment : (line : List ℕ) → is_blank (get_or line 0 0) ≡ false → is_comment line ≡ true
    → tokens_after line 0 ≡ Ok []
unfolding tokens_after
cut_comment line e f = search rules

pub cut_token : (line : List ℕ) (t : Token) (n : ℕ) → is_blank (get_or line 0 0) ≡ false
    → is_comment line ≡ false → front line ≡ Some (t, n) → 0 < n
    → tokens_after line 0 ≡ with_tokens (t ∷ []) (tokens_after (drop n line) 0)
unfolding tokens_after longest
cut_token line t n e f g some = search (rules, cut_drop)

pub cut_none : (line : List ℕ) → 0 < length line → is_blank (get_or line 0 0) ≡ false
    → is_comment line ≡ false → front line ≡ None → tokens_after line 0 ≡ Err (fault_at (get_or line 0 0))
unfolding tokens_after
cut_none line h e f g = search rules

pub no_tokens : (r : Result (List Token) LineFault) → with_tokens [] r ≡ r
unfolding with_tokens
no_tokens r = search rules

pub last_tokens : (ts : List Token) → with_tokens ts (Ok []) ≡ Ok ts
unfolding with_tokens
last_tokens ts = ap (λ us. Ok us) (append-nil ts)

pub failed_tokens : (ts : List Token) (fault : LineFault) → with_tokens ts (Err fault) ≡ Err fault
unfolding with_tokens
failed_tokens ts fault = refl

pub more_tokens : (ts us : List Token) (r : Result (List Token) LineFault)
    → with_tokens ts (with_tokens us r) ≡ with_tokens (ts ++ us) r
unfolding with_tokens
more_tokens ts us r = search (rules, append_assoc)

pub fails : (fault : LineFault) (meaning : Result (List Token) LineFault) → meaning ≡ Err fault → Fails fault meaning
fails other meaning h = search rules

-- what is cut and what is left, after one more token
pub token_more : (line rest more : List ℕ) (out new : List Token) (t : Token) (n : ℕ)
    → false ≡ is_blank (get_or rest 0 0) → false ≡ is_comment rest → Some (t, n) ≡ front rest
    → new ≡ out ++ t ∷ [] → more ≡ drop n rest
    → (with_tokens out (tokens_after rest 0) ≡ tokens_after line 0) × (length out + length rest ≤ length line)
    → (with_tokens new (tokens_after more 0) ≡ tokens_after line 0) × (length new + length more ≤ length line)
token_more line rest more out new t n b c f is left so =
    let l = longest_found (token_in rest) (length rest) n t (sym f) in
    let cut = cut_token rest t n (sym b) (sym c) (sym f) l.some in
    let size = length-append out (t ∷ []) in
    (search (rules, more_tokens), omega (arith, ap length is, ap length left, size, length-drop n rest, l))

pub ruleset cut_steps = (cut_end, cut_blank, cut_comment, cut_token, cut_none, no_tokens, last_tokens, failed_tokens, more_tokens, fails, longest_found)

-- ---- places

places_drop : (total : ℕ) (line : List ℕ) (n : ℕ) → places_after total line n ≡ places_after total (drop n line) 0
unfolding places_after
places_drop total line zero = refl
places_drop total [] (suc n) = refl
places_drop total (b ∷ bs) (suc n) = places_drop total bs n

-- the places after the first
pub place_after : (total : ℕ) (line : List ℕ) (t : Token) (n i : ℕ) → is_blank (get_or line 0 0) ≡ false
    → is_comment line ≡ false → front line ≡ Some (t, n) → 0 < n → 0 < i
    → slice_get (places_after total line 0) i ≡ slice_get (places_after total (drop n line) 0) (i - 1)
unfolding places_after longest
place_after total [] t n i e f g k m = cc
place_after total (b ∷ bs) t zero i e f g k m = absurd (omega arith)
place_after total (b ∷ bs) t (suc n) zero e f g k m = absurd (omega arith)
place_after total (b ∷ bs) t (suc n) (suc i) e f g k m = grind (arith, nat_tests, common_steps, places_drop)

pub ruleset place_steps = (place_after, longest_found)
