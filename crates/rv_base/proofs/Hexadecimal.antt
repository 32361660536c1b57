-- The hexadecimal digits of a number: those of a sixteenth of it, followed by its last digit.
use Rattle.std.proofs.lemmas.Bool.Decides.{nat_tests}
use Rattle.std.proofs.lemmas.Grind.{common_steps}
use Rattle.std.proofs.Common.{rules, ◌≡◌, ◌∙◌, ℕ, zero, suc, ◌+◌, ◌/◌, ◌%◌, ◌^◌, ◌<◌, ◌≤◌, List, [], ◌∷◌, ◌++◌, length, refl, sym, ap, append_assoc, length-append, eq-eqb, ne_eqb, arith}
use Rattle.std.specs.Prelude.{false}
use Rattle.std.specs.Fmt.{digits, digits_onto, digit_glyph}
use Rattle.std.proofs.lemmas.Bool.{cases_lt}

abbrev spell : ℕ → ℕ → List ℕ → List ℕ
spell k n acc = digits_onto k 16 false n acc

abbrev last_glyph : ℕ → ℕ
last_glyph n = digit_glyph false (n % 16)

spell_last : (k n : ℕ) (acc : List ℕ) → n < 16 → spell (suc k) n acc ≡ last_glyph n ∷ acc
spell_last k n acc h = grind (arith, nat_tests, common_steps, eq-eqb)

spell_next : (k n : ℕ) (acc : List ℕ) → 16 ≤ n → spell (suc k) n acc ≡ spell k (n / 16) (last_glyph n ∷ acc)
spell_next k n acc h = grind (arith, nat_tests, common_steps, ne_eqb)

-- the digits of a number in front of more text
spell_append : (k n : ℕ) (acc : List ℕ) → spell k n acc ≡ spell k n [] ++ acc
spell_append zero n acc = refl
spell_append (suc k) n acc = search (rules, append_assoc, spell_append k (n / 16))

-- any number of places is as good as another, if there are enough
spell_enough : (j k n : ℕ) (acc : List ℕ) → n < 16 ^ suc j → n < 16 ^ suc k → spell (suc j) n acc ≡ spell (suc k) n acc
spell_enough zero k n acc p q = spell_last zero n acc (omega arith) ∙ sym (spell_last k n acc (omega arith))
spell_enough (suc j) zero n acc p q = grind (arith, nat_tests, common_steps, spell_last)
spell_enough (suc j) (suc k) n acc p q = grind (arith, nat_tests, common_steps, spell_last, spell_next, cases_lt, spell_enough j k (n / 16) (last_glyph n ∷ acc))

pub hex_one : (n : ℕ) → n < 16 → digits 16 false n ≡ last_glyph n ∷ []
unfolding digits
hex_one n h = spell_last 63 n [] h

pub hex_more : (n : ℕ) → 16 ≤ n → n < 2 ^ 32 → digits 16 false n ≡ digits 16 false (n / 16) ++ last_glyph n ∷ []
unfolding digits
hex_more n h small =
    let same = spell_enough 62 63 (n / 16) (last_glyph n ∷ []) (omega arith) (omega arith) in
    rw (spell_next 63 n [] h, same) (spell_append 64 (n / 16) (last_glyph n ∷ []))

-- the same after a text, one digit at a time
pub more_after_text : (text longer : List ℕ) (n : ℕ) → 16 ≤ n → n < 2 ^ 32 →
    longer ≡ text ++ digits 16 false (n / 16) → text ++ digits 16 false n ≡ longer ++ last_glyph n ∷ []
more_after_text text longer n h small is = grind (arith, nat_tests, common_steps, hex_more, append_assoc)

pub one_long : (n : ℕ) → n < 16 → length (digits 16 false n) ≡ 1
one_long n h = ap length (hex_one n h)

pub one_longer : (n : ℕ) → 16 ≤ n → n < 2 ^ 32 → length (digits 16 false n) ≡ length (digits 16 false (n / 16)) + 1
one_longer n h small = grind (arith, nat_tests, common_steps, hex_more, length-append)

-- a number below 16 ^ k has at most k digits
pub hex_length : (k n : ℕ) → n < 16 ^ suc k → n < 2 ^ 32 → length (digits 16 false n) ≤ suc k
hex_length zero n h small = omega (arith, one_long n (omega arith))
hex_length (suc k) n h small = grind (arith, nat_tests, common_steps, one_long, one_longer, cases_lt, hex_length k (n / 16))
