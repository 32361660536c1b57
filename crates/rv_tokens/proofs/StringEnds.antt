-- The end of a string.
use Rattle.std.proofs.lemmas.Grind.{common_steps}
use Rattle.std.proofs.Common.{rules, ◌≡◌, ℕ, zero, suc, ◌+◌, ◌-◌, ◌<◌, ◌≤◌, Bool, true, false, cond, leb, List, [], ◌∷◌, length, take, drop, get_or, refl, sym, ap, ◌∙◌, arith, length-take, length-drop, get_or-take, get_or-drop}
use Rattle.std.specs.Prelude.{None, Some, is_some, ◌&&◌}
use Rattle.std.specs.Bool.{◌==◌}
use Rattle.std.specs.Option.{option_map}
use Rattle.std.proofs.lemmas.Bool.{le-leb, lt-leb, cases_lt}
use Rattle.std.proofs.lemmas.Bool.Decides.{nat_tests}
use Rattle.std.proofs.lemmas.List.{take-take, drop-take, drop-drop}
use Rattle.std.proofs.Math.Bool.{and-false}
use Rattle.std.proofs.Math.Seq.{drop-cons}
use Rattle.rv_tokens.specs.declared.token.Token.TheVariants.{Text}
use Rattle.rv_base.specs.Numbers.{digit_value, hex_digit, hex_byte, number_in}
use Rattle.rv_base.proofs.NumberReading.{no_digits}
use Rattle.rv_tokens.specs.Literals.{longest, escape, spelled, between, bytes_after}
use Rattle.rv_tokens.specs.Support.Cuts.{front}
use Rattle.rv_tokens.specs.Tokens.{token_of, token_in}
use Rattle.rv_tokens.specs.Support.Partial.{first_byte, string_bytes}
use Rattle.rv_tokens.proofs.Signs.{token_is}
use Rattle.rv_tokens.proofs.Escapes.{no_letter, spelled_is, string_byte_in, bytes_of_none, bytes_of_some}
use Rattle.rv_tokens.proofs.Front.{front_at, quoted_in, at_front}
use Rattle.rv_tokens.proofs.Longest.{reach, longest_above, longest_found, longest_none, longest_over, longest_same}

-- ---- no quote stands in the spelling of a byte, except right after a `\`

no_quote : (base i : ℕ) (ds : List ℕ) → base ≤ 16 → i < length ds → get_or ds i 0 ≡ 34 → number_in base 255 ds ≡ None
unfolding hex_digit
no_quote base i ds low lt q =
    let other : base ≤ digit_value (get_or ds i 0) = rw q (omega (arith, low)) in no_digits base 255 i ds lt other

escape_quote : (c : ℕ) (ds : List ℕ) (i : ℕ) → i < length ds → get_or ds i 0 ≡ 34 → escape (c ∷ ds) ≡ None
unfolding escape hex_byte
escape_quote c (d ∷ ds) i lt q =
    grind (arith, nat_tests, common_steps, no_quote 16 i (d ∷ ds), no_quote 8 (suc i) (c ∷ d ∷ ds), no_letter)
escape_quote c [] i lt q = absurd (omega arith)

before_quote : (quote : ℕ) (s : List ℕ) (b j : ℕ) → spelled quote s ≡ Some b → 0 < j → j < length s
    → get_or s j 0 ≡ 34 → take j s ≡ 92 ∷ []
unfolding spelled
before_quote quote (a ∷ c ∷ cs) b j h some lt q = search (rules, and-false, escape_quote)
before_quote quote s b j h some lt q = absurd (omega arith)

lone_backslash : string_bytes (92 ∷ []) ≡ None
unfolding bytes_after longest spelled escape number_in
lone_backslash = refl

-- the text of a byte that is cut off before a quote isn't the text of any bytes
cut_quote : (t : List ℕ) (b k j : ℕ) → first_byte t ≡ Some (b, k) → 0 < j → j < k → get_or t j 0 ≡ 34
    → string_bytes (take j t) ≡ None
cut_quote t b k j e some lt q =
    let l = longest_found (string_byte_in t) (length t) k b e in
    grind (arith, nat_tests, common_steps, before_quote 34 (take k t) b j, length-take, get_or-take, take-take, lone_backslash)

-- ---- the bytes of a text up to one of its quotes

-- the first byte of a text is that of a prefix that has it whole
first_byte_take : (t : List ℕ) (j : ℕ) → reach (first_byte t) ≤ j → j ≤ length t → first_byte (take j t) ≡ first_byte t
first_byte_take t j le within =
    let same : first_byte (take j t) ≡ longest (string_byte_in t) j =
    search (rules, length-take, longest_same, take-take) in
    same ∙ sym (longest_above (string_byte_in t) j (length t) within
    (λ m p q. longest_over (string_byte_in t) (length t) m (omega (arith, le, p)) q))

-- whether the first m bytes spell some
abbrev pub spells : List ℕ → ℕ → Bool
spells t m = is_some (string_bytes (take m t))

spells_none : (t : List ℕ) (j : ℕ) → first_byte t ≡ None → 0 < j → j ≤ length t → spells t j ≡ false
spells_none t j e some le = grind (arith, nat_tests, common_steps, bytes_of_none, length-take, first_byte_take)

drop_of_take : (k j : ℕ) (t : List ℕ) → k ≤ j → drop k (take j t) ≡ take (j - k) (drop k t)
drop_of_take k j t le = grind (arith, nat_tests, drop-take k (j - k) t)

spells_next : (t : List ℕ) (b k j : ℕ) → first_byte t ≡ Some (b, k) → k ≤ j → j ≤ length t
    → spells t j ≡ spells (drop k t) (j - k)
spells_next t b k j e le within =
    rw (bytes_of_some (take j t) b k (first_byte_take t j (rw e le) within ∙ e), drop_of_take k j t le) (search rules)

spells_step : (t : List ℕ) (b k j : ℕ) → first_byte t ≡ Some (b, k) → 0 < j → j < length t → get_or t j 0 ≡ 34
    → spells t j ≡ (leb k j && spells (drop k t) (j - k))
spells_step t b k j e some lt q = grind (arith, nat_tests, common_steps, cases_lt, cut_quote, lt-leb, le-leb, spells_next)

-- ---- the search for the end

-- what spells bytes up to a quote has those up to i, and the others after them
pub record IsScanned (text : List ℕ) (i : ℕ) : Type 0 where
  pub within : i ≤ length text
  pub goes_on : (m : ℕ) → m < length text → get_or text m 0 ≡ 34
      → spells text m ≡ (leb i m && spells (drop i text) (m - i))

module _ (text : List ℕ) (i : ℕ) (so : IsScanned text i) where
  early : (m : ℕ) → m < i → m < length text → get_or text m 0 ≡ 34 → spells text m ≡ false
  early m lt less q = so.goes_on m less q ∙ rw (lt-leb i m lt) refl

  late : (m : ℕ) → i ≤ m → m < length text → get_or text m 0 ≡ 34 → spells text m ≡ spells (drop i text) (m - i)
  late m le less q = so.goes_on m less q ∙ rw (le-leb i m le) refl

  quote_at : (m : ℕ) → i ≤ m → get_or text m 0 ≡ 34 → get_or (drop i text) (m - i) 0 ≡ 34
  quote_at m le q = grind (arith, nat_tests, common_steps, get_or-drop)

  -- no quote beyond the next byte, if there is none
  past : (m : ℕ) → first_byte (drop i text) ≡ None → i < m → m < length text → get_or text m 0 ≡ 34
      → spells text m ≡ false
  past m e gt less q = grind (arith, nat_tests, common_steps, late, spells_none, length-drop)

  pub scanned_more : (b k : ℕ) → (get_or text i 0 ≡ 34 → ⊥) → first_byte (drop i text) ≡ Some (b, k)
      → IsScanned text (i + k)
  scanned_more b k test e = search (rules, nat_tests, longest_found, string_byte_in, length-drop, cases_lt, lt-leb, early, late, spells_step, quote_at, drop-drop)

-- ---- the string at the front of a line

quote_front : (zs : List ℕ) (m : ℕ) → 0 < m → string_byte_in (34 ∷ zs) m ≡ None
quote_front zs m some = search (rules, spelled_is)

first_byte_quote : (text : List ℕ) (n : ℕ) → n < length text → get_or text n 0 ≡ 34 → first_byte (drop n text) ≡ None
first_byte_quote text n lt q = grind (arith, nat_tests, common_steps, drop-cons, longest_none, string_byte_in, quote_front)

quoted_between : (ys : List ℕ) (n : ℕ) → length ys ≡ suc n
    → between 34 34 (34 ∷ ys) ≡ cond (get_or ys n 0 == 34) (Some (take n ys)) None
quoted_between ys n len = search rules

string_of : (text : List ℕ) (m : ℕ) → m < length text → token_of (34 ∷ take (suc m) text)
    ≡ cond (get_or text m 0 == 34) (option_map (λ s. Text s) (string_bytes (take m text))) None
string_of text m lt = search (rules, token_is, quoted_between (take (suc m) text) m, length-take, get_or-take, take-take)

string_in : (text : List ℕ) (m : ℕ) → m < length text → token_in (34 ∷ text) (suc (suc m))
    ≡ cond (get_or text m 0 == 34) (option_map (λ s. Text s) (string_bytes (take m text))) None
string_in text m lt =
    let e : suc (suc m) - 1 ≡ suc m = omega arith in
    quoted_in 34 (get_or text m 0) (34 ∷ text) (suc (suc m)) refl (ap (λ k. get_or (34 ∷ text) k 0) e)
    (λ f. string_of text m lt ∙ rw f refl) ∙ string_of text m lt

-- no string of m bytes, if the bytes up to a quote there spell none
nowhere : (text : List ℕ) (m : ℕ)
    → ((k : ℕ) → suc (suc k) ≡ m → k < length text → get_or text k 0 ≡ 34 → spells text k ≡ false) → 0 < m
    → m ≤ length (34 ∷ text) → token_in (34 ∷ text) m ≡ None
nowhere text (suc (suc m)) h some le = grind (arith, nat_tests, common_steps, string_in)
nowhere text (suc zero) h some le = quoted_in 34 34 (34 ∷ text) 1 refl refl (λ f. token_is 34 []) ∙ token_is 34 []
nowhere text zero h some le = absurd (omega arith)

-- the string that ends with the quote at n
pub front_string : (text s : List ℕ) (n : ℕ) → IsScanned text n → n < length text → get_or text n 0 ≡ 34
    → string_bytes (take n text) ≡ Some s → front (34 ∷ text) ≡ Some (Text s, suc (suc n))
front_string text s n so lt q e = front_at (34 ∷ text) (suc (suc n)) (Some (Text s)) (omega arith) (omega arith)
    (string_in text n lt ∙ rw (q, e) refl) (λ m p r. nowhere text m
    (λ k is less at. past text n so k (first_byte_quote text n lt q) (omega arith) less at) (omega arith) r)
    (λ m p r. nowhere text m (λ k is less at. early text n so k (omega arith) less at) p (omega arith))

-- the text before the quote is that of some bytes
pub scanned_some : (text : List ℕ) (n : ℕ) → IsScanned text n → n < length text → get_or text n 0 ≡ 34
    → is_some (string_bytes (take n text)) ≡ true
unfolding bytes_after
scanned_some text n so lt q = grind (arith, nat_tests, common_steps, late)

-- no quote ends the string
pub front_unended : (text : List ℕ) (n : ℕ) → IsScanned text n → length text ≤ n → front (34 ∷ text) ≡ None
front_unended text n so end = search (rules, longest_none, nowhere, early)

-- no byte is spelled at n
pub front_bad : (text : List ℕ) (n : ℕ) → IsScanned text n → (get_or text n 0 ≡ 34 → ⊥)
    → first_byte (drop n text) ≡ None → front (34 ∷ text) ≡ None
front_bad text n so test e = search (rules, nat_tests, longest_none, nowhere, cases_lt, early, past)

-- a line that begins with a quote
pub begins_quoted : (line : List ℕ) → 0 < length line → get_or line 0 0 ≡ 34 → line ≡ 34 ∷ drop 1 line
begins_quoted line some e = search rules

pub ruleset string_steps = (scanned_some, scanned_more, front_string, front_bad, front_unended, begins_quoted, at_front)
