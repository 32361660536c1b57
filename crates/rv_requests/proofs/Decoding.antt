-- Bytes of two digits each, one after another.
use Rattle.std.proofs.Common.{◌≡◌, ◌≤◌, ◌<◌, ℕ, List, [], ◌∷◌, ◌++◌, length, drop, refl, sym, ap, arith, append_assoc, append-nil}
use Rattle.std.specs.Prelude.{Option, Some, None, take}
use Rattle.std.specs.Option.{option_map}
use Rattle.rv_base.specs.Numbers.{hex_byte}
use Rattle.rv_requests.specs.Numbers.{bytes_of}

-- what more digits make of the bytes before them
unfoldable pub decoded : List ℕ → List ℕ → Option (List ℕ)
decoded before digits = option_map (λ more. before ++ more) (bytes_of digits)

same : (o : Option (List ℕ)) → option_map (λ more. [] ++ more) o ≡ o
same None = refl
same (Some x) = refl

moved : (bs : List ℕ) (b : ℕ) (o : Option (List ℕ)) →
    option_map (λ more. bs ++ more) (option_map (λ more. b ∷ more) o) ≡ option_map (λ more. (bs ++ b ∷ []) ++ more) o
moved bs b None = refl
moved bs b (Some x) = ap (λ l. Some l) (sym (append_assoc bs (b ∷ []) x))

pub first_digits : (digits : List ℕ) → decoded [] digits ≡ bytes_of digits
unfolding decoded
first_digits digits = same (bytes_of digits)

pub next_digits : (bs digits : List ℕ) (b : ℕ) → 2 ≤ length digits →
    hex_byte (take 2 digits) ≡ Some b →
    decoded bs digits ≡ decoded (bs ++ b ∷ []) (drop 2 digits)
unfolding decoded bytes_of
next_digits bs [] b h e = absurd (omega (arith, h))
next_digits bs (x ∷ []) b h e = absurd (omega (arith, h))
next_digits bs (x ∷ y ∷ more) b h e = rw e (moved bs b (bytes_of more))

pub bad_digits : (bs digits : List ℕ) → 2 ≤ length digits →
    hex_byte (take 2 digits) ≡ None → decoded bs digits ≡ None
unfolding decoded bytes_of
bad_digits bs [] h e = absurd (omega (arith, h))
bad_digits bs (x ∷ []) h e = absurd (omega (arith, h))
bad_digits bs (x ∷ y ∷ more) h e = rw e refl

pub no_digits : (bs digits : List ℕ) → length digits ≡ 0 → decoded bs digits ≡ Some bs
unfolding decoded bytes_of
no_digits bs [] h = ap (λ l. Some l) (append-nil bs)
no_digits bs (x ∷ more) h = absurd (omega (arith, h))

pub odd_digit : (bs digits : List ℕ) → 0 < length digits → length digits < 2 → decoded bs digits ≡ None
unfolding decoded bytes_of
odd_digit bs [] h k = absurd (omega (arith, h))
odd_digit bs (x ∷ []) h k = refl
odd_digit bs (x ∷ y ∷ more) h k = absurd (omega (arith, k))

pub ruleset decoding_steps = (first_digits, next_digits, bad_digits, no_digits, odd_digit)
