-- Escapes, bytes between quotes, and the bytes of a string.
use Rattle.std.proofs.Common.{rules, ◌≡◌, ℕ, zero, suc, ◌-◌, ◌<◌, ◌≤◌, cond, List, [], ◌∷◌, length, take, drop, get_or, refl, ap, arith, length-take}
use Rattle.std.proofs.lemmas.Grind.{common_steps}
use Rattle.std.specs.Prelude.{Option, None, Some, ◌&&◌, IsTrue, is_some}
use Rattle.std.specs.Bool.{◌==◌}
use Rattle.std.specs.Option.{option_map, unwrap_or}
use Rattle.std.proofs.lemmas.Bool.Decides.{nat_tests}
use Rattle.std.proofs.lemmas.List.{drop_all, take_all}
use Rattle.std.proofs.Math.Seq.{drop-cons}
use Rattle.rv_base.specs.Numbers.{hex_byte}
use Rattle.rv_base.specs.Tables.{lookup}
use Rattle.rv_base.proofs.NumberReading.{no_number}
use Rattle.rv_tokens.specs.declared.token.Direction.TheVariants.{Backward, Forward}
use Rattle.rv_tokens.specs.declared.token.Token.TheVariants.{Local}
use Rattle.rv_tokens.specs.Literals.{letters, escape, spelled, longest, short_decimal, bytes_after}
use Rattle.rv_tokens.specs.Tokens.{local}
use Rattle.rv_tokens.specs.Support.Partial.{is_plain, first_byte, string_bytes}
use Rattle.rv_tokens.proofs.Signs.{swapped}
use Rattle.rv_tokens.proofs.Longest.{longest_above, longest_found}

-- ---- escapes

pub no_letter : (text : List ℕ) → (length text ≡ 1 → ⊥) → lookup text letters ≡ None
no_letter text h = search rules

pub ruleset escape_steps = (no_letter, no_number, take_all, nat_tests)

escape_long : (text : List ℕ) → 3 < length text → escape text ≡ None
unfolding escape hex_byte
escape_long text long = grind (arith, nat_tests, common_steps)

-- ---- bytes between quotes

pub spelled_is : (quote : ℕ) (text : List ℕ) → spelled quote text
    ≡ cond (get_or text 0 0 == 92) (escape (take (length text - 1) (drop 1 text)))
    (cond (is_plain quote (get_or text 0 0) && (length text == 1)) (Some (get_or text 0 0)) None)
unfolding spelled
spelled_is quote text = search (rules, take_all)

-- the text of a byte has at most four bytes
pub spelled_long : (quote : ℕ) (text : List ℕ) → 4 < length text → spelled quote text ≡ None
unfolding spelled
spelled_long quote text long = search (rules, escape_long)

-- the byte that the first n bytes of a text spell in a string
abbrev pub string_byte_in : List ℕ → ℕ → Option ℕ
string_byte_in text n = spelled 34 (take n text)

pub first_byte_within : (text : List ℕ) (n : ℕ) → n ≤ length text
    → ((m : ℕ) → n < m → m ≤ length text → 4 < m) → longest (string_byte_in text) n ≡ first_byte text
first_byte_within text n le long = search (rules, longest_above, length-take, spelled_long)

-- ---- local references

pub local_is : (text : List ℕ) → 0 < length text → local text ≡ cond (get_or text (length text - 1) 0 == 98)
    (option_map (λ n. Local n Backward) (short_decimal (take (length text - 1) text)))
    (cond (get_or text (length text - 1) 0 == 102)
    (option_map (λ n. Local n Forward) (short_decimal (take (length text - 1) text))) None)
unfolding local
local_is text some = search (rules, drop-cons, drop_all, swapped)

-- ---- the bytes of a string

bytes_after_drop : (text : List ℕ) (n : ℕ) → bytes_after text n ≡ string_bytes (drop n text)
unfolding bytes_after
bytes_after_drop text zero = refl
bytes_after_drop [] (suc n) = refl
bytes_after_drop (b ∷ bs) (suc n) = bytes_after_drop bs n

pub bytes_of_none : (text : List ℕ) → 0 < length text → first_byte text ≡ None → string_bytes text ≡ None
unfolding bytes_after
bytes_of_none [] some e = absurd (omega arith)
bytes_of_none (b ∷ bs) some e = rw e refl

pub bytes_of_some : (text : List ℕ) (x n : ℕ) → first_byte text ≡ Some (x, n)
    → string_bytes text ≡ option_map (λ cs. x ∷ cs) (string_bytes (drop n text))
unfolding bytes_after
bytes_of_some [] x n e = search (rules, longest_found)
bytes_of_some (b ∷ bs) x n e = search (rules, longest_found, bytes_after_drop)

-- the bytes of a text that spells some
unfoldable pub bytes_of : List ℕ → List ℕ
bytes_of text = unwrap_or (string_bytes text) []

pub bytes_are : (text : List ℕ) → bytes_of text ≡ unwrap_or (string_bytes text) []
unfolding bytes_of
bytes_are text = refl

spells_by : (x : ℕ) (o p : Option (List ℕ)) → o ≡ option_map (λ cs. x ∷ cs) p → IsTrue (is_some o)
    → (unwrap_or o [] ≡ x ∷ unwrap_or p []) × IsTrue (is_some p)
spells_by x o p e h = search rules

pub one_more : (text : List ℕ) (x n : ℕ) → first_byte text ≡ Some (x, n) → IsTrue (is_some (string_bytes text))
    → (bytes_of text ≡ x ∷ bytes_of (drop n text)) × IsTrue (is_some (string_bytes (drop n text)))
unfolding bytes_of
one_more text x n e h = spells_by x _ (string_bytes (drop n text)) (bytes_of_some text x n e) h

pub no_more : (text : List ℕ) → first_byte text ≡ None → IsTrue (is_some (string_bytes text)) → bytes_of text ≡ []
unfolding bytes_of bytes_after
no_more text e h = grind (arith, nat_tests, common_steps, bytes_of_none)

pub ruleset text_steps = (bytes_are, one_more, no_more)
