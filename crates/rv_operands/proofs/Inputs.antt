-- Inputs that are read one after the other.
use Rattle.std.proofs.Common.{rules, ◌≡◌, ℕ, Bool, true, false, List, [], ◌∷◌, ◌++◌, ◌==◌, ◌<◌, ◌≤◌, ◌≢◌, ◌-◌, length, take, drop, get_or, arith, refl, sym, ap, ◌∙◌, append_assoc}
use Rattle.std.proofs.lemmas.Bool.Decides.{nat_tests}
use Rattle.std.proofs.lemmas.List.{take_all}
use Rattle.std.specs.Prelude.{Option, Some, None, Result, IfOk}
use Rattle.std.specs.Option.{option_map}
use Rattle.rv_base.specs.declared.memory.NoMemory.{NoMemory}
use Rattle.rv_base.specs.Numbers.{hex_byte}
use Rattle.rv_timeline.specs.Timed.{all_of, byte_input}
use Rattle.rv_timeline.specs.declared.input.Input.{Input}
use Rattle.rv_timeline.specs.declared.input.Input.TheVariants.{Rx}
use Rattle.rv_operands.specs.Operands.{unescaped}
use Rattle.rv_operands.specs.Support.Words.{Reads, escape_of, text_inputs}

-- one input, and those that follow it
one_more : (old mid new : List Input) (x : Input) (rest meaning : Option (List Input)) (can : Bool)
    → mid ≡ old ++ x ∷ [] → meaning ≡ option_map (λ xs. x ∷ xs) rest → Reads mid new rest can
    → Reads old new meaning can
one_more old mid new x (Some xs) meaning true e m h =
    rw m (ap (λ ys. Some ys) (sym (append_assoc old (x ∷ []) xs)) ∙ (rw e at h))
one_more old mid new x None meaning true e m h = absurd cc
one_more old mid new x rest meaning false e m h = rw (m, h) refl

pub and_more : (old mid new : List Input) (x : Input) (rest meaning : Option (List Input))
    → (result : Result Bool NoMemory) → mid ≡ old ++ x ∷ [] → meaning ≡ option_map (λ xs. x ∷ xs) rest
    → IfOk result (Reads mid new rest) → IfOk result (Reads old new meaning)
and_more old mid new x rest meaning result e m h = search (rules, arith, nat_tests, one_more)

-- words
pub no_words : (ws : List (List ℕ)) → ws ≡ [] → all_of byte_input ws ≡ Some []
unfolding all_of
no_words ws e = rw e refl

pub bad_word : (w : List ℕ) (ws all : List (List ℕ)) → all ≡ w ∷ ws → hex_byte w ≡ None → all_of byte_input all ≡ None
unfolding all_of
bad_word w ws all e h = rw (e, h) refl

pub good_word : (w : List ℕ) (ws all : List (List ℕ)) (b : ℕ) → all ≡ w ∷ ws → hex_byte w ≡ Some b
    → all_of byte_input all ≡ option_map (λ xs. Rx b ∷ xs) (all_of byte_input ws)
unfolding all_of
good_word w ws all b e h = rw (e, h) refl

-- a text with escapes
both : (b : ℕ) (o : Option (List ℕ))
    → text_inputs (option_map (λ bs. b ∷ bs) o) ≡ option_map (λ xs. Rx b ∷ xs) (text_inputs o)
both b o = search (rules, arith, nat_tests)

is_other : (c : ℕ) → (c ≢ 92) → (c == 92) ≡ false
is_other c h = grind (arith, nat_tests)

is_slash : (c : ℕ) → c ≡ 92 → (c == 92) ≡ true
is_slash c h = grind (arith, nat_tests)

pub no_text : (text : List ℕ) → length text < 1 → text_inputs (unescaped text) ≡ Some []
unfolding unescaped
no_text text h = search (rules, arith, nat_tests)

bad_slash : (c d : ℕ) (more : List ℕ) → (c == 92) ≡ true → escape_of d ≡ None
    → text_inputs (unescaped (c ∷ d ∷ more)) ≡ None
unfolding unescaped
bad_slash c d more h e = rw (h, e) refl

-- the rest of a text after its first byte, as the code has it
abbrev rest_of : List ℕ → List ℕ
rest_of text = take (length text - 1) (drop 1 text)

rest_is : (c : ℕ) (rest : List ℕ) → rest_of (c ∷ rest) ≡ rest
rest_is c rest = take_all (length (c ∷ rest) - 1) rest (omega arith)

pub plain : (text : List ℕ) → 1 ≤ length text → (get_or text 0 0 ≢ 92) → text_inputs (unescaped text)
    ≡ option_map (λ xs. Rx (get_or text 0 0) ∷ xs) (text_inputs (unescaped (rest_of text)))
unfolding unescaped
plain [] h n = absurd (omega (arith, h))
plain (c ∷ []) h n = rw (is_other c n) refl
plain (c ∷ d ∷ more) h n = rw (rest_is c (d ∷ more), is_other c n) (both c (unescaped (d ∷ more)))

pub lone : (text : List ℕ) → 1 ≤ length text → get_or text 0 0 ≡ 92 → length (rest_of text) < 1
    → text_inputs (unescaped text) ≡ None
unfolding unescaped
lone [] h n k = absurd (omega (arith, h))
lone (c ∷ []) h n k = rw (is_slash c n) refl
lone (c ∷ d ∷ more) h n k = let none = rw (rest_is c (d ∷ more)) at k in absurd (omega (arith, none))

pub bad_escape : (text : List ℕ) → 1 ≤ length text → get_or text 0 0 ≡ 92 → 1 ≤ length (rest_of text)
    → escape_of (get_or (rest_of text) 0 0) ≡ None → text_inputs (unescaped text) ≡ None
bad_escape text h n k e = search (rules, arith, nat_tests, rest_is, bad_slash, is_slash)

pub good_escape : (text : List ℕ) (b : ℕ) → 1 ≤ length text → get_or text 0 0 ≡ 92 → 1 ≤ length (rest_of text)
    → escape_of (get_or (rest_of text) 0 0) ≡ Some b → text_inputs (unescaped text)
    ≡ option_map (λ xs. Rx b ∷ xs) (text_inputs (unescaped (rest_of (rest_of text))))
unfolding unescaped
good_escape [] b h n k e = absurd (omega (arith, h))
good_escape (c ∷ []) b h n k e = absurd (omega (arith, k))
good_escape (c ∷ d ∷ more) b h n k e =
    let means = rw (rest_is c (d ∷ more)) at e in
    rw (rest_is c (d ∷ more), rest_is d more, is_slash c n, means) (both b (unescaped more))
