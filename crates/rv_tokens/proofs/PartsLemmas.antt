-- The tokens of a line are its only parts in the sense of Parts.antt.
use Rattle.std.proofs.lemmas.Grind.{common_steps}
use Rattle.std.proofs.Common.{cond, rules, ◌≡◌, ℕ, zero, suc, ◌<◌, ◌≤◌, Bool, true, false, List, [], ◌∷◌, length, take, drop, get_or, refl, sym, ap, ◌∙◌, arith, length-drop}
use Rattle.std.specs.Prelude.{Option, None, Some, Result, Ok, Err, ◌↔◌}
use Rattle.std.proofs.lemmas.Bool.Decides.{nat_tests}
use Rattle.rv_tokens.specs.declared.token.Token.{Token}
use Rattle.rv_tokens.specs.declared.fault.LineFault.{LineFault}
use Rattle.rv_tokens.specs.declared.fault.LineFault.TheVariants.{LineTooLong}
use Rattle.rv_base.specs.Words.{is_blank}
use Rattle.rv_tokens.specs.Support.Cuts.{front, tokens, with_tokens, tokens_after}
use Rattle.rv_tokens.specs.Tokens.{token_of, token_in, is_comment}
use Rattle.rv_tokens.specs.Parts.{IsCut, Ended, Comment, Blank, Longest, Nothing, IsCutInto}
use Rattle.rv_tokens.proofs.Front.{none_in}
use Rattle.rv_tokens.proofs.Longest.{longest_is, longest_found, longest_none, longest_over}
use Rattle.rv_tokens.proofs.Signs.{token_is, token_by, no_token}
use Rattle.rv_tokens.proofs.Cutting.{cut_blank, cut_comment, cut_token, cut_none, cut_end}

-- ---- neither a blank nor a comment begins where a token does

apart : (b : ℕ) (bs cs : List ℕ) (t : Token) → token_by b cs ≡ Some t
    → (is_blank b ≡ false) × (is_comment (b ∷ bs) ≡ false)
apart b bs cs t h = search rules

spelled : (b : Bool) (o : Option Token) (t : Token) → cond b None o ≡ Some t → o ≡ Some t
spelled b o t h = search rules

-- a line that begins with a token
begins : (line : List ℕ) (n : ℕ) (t : Token) → token_in line n ≡ Some t
    → (0 < n) × (is_blank (get_or line 0 0) ≡ false) × (is_comment line ≡ false)
unfolding token_in
begins line zero t h = let f = none_in line 0 no_token in cc
begins [] (suc n) t h = let f = none_in [] (suc n) no_token in cc
begins (b ∷ bs) (suc n) t h =
    let is = sym (token_is b (take n bs)) ∙ spelled _ (token_of (b ∷ take n bs)) t h in
    let at = apart b bs (take n bs) t is in (omega arith, at.0, at.1)

comment_ends : (line : List ℕ) → is_comment line ≡ true → tokens_after line 0 ≡ Ok []
comment_ends line h = search (rules, cut_comment, cut_blank)

-- ---- from the parts of a line to its tokens

cut_is : (line : List ℕ) (r : Result (List Token) LineFault) → IsCut line r → tokens_after line 0 ≡ r
unfolding with_tokens
cut_is _ _ Ended = cut_end [] refl
cut_is _ _ (Comment line e) = comment_ends line e
cut_is _ _ (Blank b rest r e h) = cut_blank (b ∷ rest) e ∙ cut_is rest r h
cut_is _ _ (Longest line n t r within is above h) =
    let at = begins line n t is in
    let found = longest_is (token_in line) (length line) n t
    (record { some = at.0; within = within; is = is; above = above }) in
    cut_token line t n at.1 at.2 found at.0 ∙ ap (with_tokens (t ∷ [])) (cut_is (drop n line) r h)
cut_is _ _ (Nothing b rest blank comment none) = grind (arith, nat_tests, common_steps, cut_none, longest_none)

-- ---- from the tokens of a line to its parts

none_all : (line : List ℕ) → front line ≡ None → (n : ℕ) → n ≤ length line → token_in line n ≡ None
none_all line h zero le = none_in line 0 no_token
none_all line h (suc n) le = longest_over (token_in line) (length line) (suc n) (rw h (omega arith)) le

-- a line, if each of its ends has the parts that it is cut into
made_step : (b : ℕ) (bs : List ℕ) (s c : Bool) (o : Option (Token × ℕ))
    → ((l : List ℕ) → length l ≤ length bs → IsCut l (tokens_after l 0)) → is_blank b ≡ s
    → is_comment (b ∷ bs) ≡ c → front (b ∷ bs) ≡ o → IsCut (b ∷ bs) (tokens_after (b ∷ bs) 0)
unfolding with_tokens
made_step b bs true c o more e f g =
    rw (cut_blank (b ∷ bs) e) (Blank b bs (tokens_after bs 0) e (more bs (omega arith)))
made_step b bs false true o more e f g = rw (cut_comment (b ∷ bs) e f) (Comment (b ∷ bs) f)
made_step b bs false false None more e f g =
    rw (cut_none (b ∷ bs) (omega arith) e f g) (Nothing b bs e f (none_all (b ∷ bs) g))
made_step b bs false false (Some at) more e f g =
    let l = longest_found (token_in (b ∷ bs)) (length (b ∷ bs)) at.1 at.0 g in
    rw (cut_token (b ∷ bs) at.0 at.1 e f g l.some)
    (Longest (b ∷ bs) at.1 at.0 (tokens_after (drop at.1 (b ∷ bs)) 0) l.within l.is l.above
    (more (drop at.1 (b ∷ bs)) (omega (arith, length-drop at.1 (b ∷ bs), l.some, l.within))))

made : (k : ℕ) (line : List ℕ) → length line ≤ k → IsCut line (tokens_after line 0)
made k [] h = rw (cut_end [] refl) Ended
made zero (b ∷ bs) h = absurd (omega arith)
made (suc k) (b ∷ bs) h = search (rules, nat_tests, made_step, made k)

-- ---- lines that are too long

pub short_tokens : (line : List ℕ) → length line ≤ 1024 → tokens line ≡ tokens_after line 0
unfolding tokens
short_tokens line h = search (rules, nat_tests)

pub long_tokens : (line : List ℕ) → 1024 < length line → tokens line ≡ Err LineTooLong
unfolding tokens
long_tokens line h = search (rules, nat_tests)

-- the parts of a line are its tokens
pub cut_means : (line : List ℕ) (r : Result (List Token) LineFault) → IsCutInto line r ↔ (tokens line ≡ r)
cut_means line r = search (rules, long_tokens, short_tokens, cut_is, made)

pub is_cut : (line : List ℕ) → IsCutInto line (tokens line)
is_cut line = (cut_means line (tokens line)).1 refl
