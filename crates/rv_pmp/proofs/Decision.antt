-- The decision by spans is the one by number.
use Rattle.std.proofs.Common.{rules, ◌≡◌, ℕ, zero, suc, ◌+◌, ◌-◌, ◌*◌, ◌%◌, ◌^◌, ◌<◌, ◌≤◌, ◌⊎◌, inl, Bool, true, false, List, [], ◌∷◌, length, drop, Option, Some, None, refl, ap, sym, ◌∙◌, arith, nat_lt, nat_le, ◌/◌, ◌==◌, eqb-true, mul_assoc, div-add-mod', add-sub_of_le}
use Rattle.std.specs.Prelude.{if◌then◌else◌, ◌&&◌, find, unwrap_or}
use Rattle.std.specs.List.{list_any, list_all, range_with_len}
use Rattle.std.proofs.lemmas.Bool.{and_parts, or_parts}
use Rattle.std.proofs.lemmas.Bool.Decides.{nat_tests}
use Rattle.std.proofs.lemmas.Grind.{common_steps}
use Rattle.std.proofs.lemmas.List.{drop_all, drop_more}
use Rattle.std.proofs.lemmas.Nat.{pow_pos, pow-add, mod_below, div-mul-add}
use Rattle.rv_isa.specs.Width.{bytes_of}
use Rattle.rv_isa.specs.declared.op.Width.{Width}
use Rattle.rv_pmp.specs.declared.access.Access.{Access}
use Rattle.rv_pmp.specs.declared.mode.Mode.{Mode}
use Rattle.rv_pmp.specs.declared.mode.Mode.TheVariants.{Machine}
use Rattle.rv_pmp.specs.declared.entry.Entry.{Entry}
use Rattle.rv_pmp.specs.declared.entry.Matching.{Matching}
use Rattle.rv_pmp.specs.declared.entry.Matching.TheVariants.{Napot}
use Rattle.rv_pmp.specs.declared.active_entries.ActiveEntry.{ActiveEntry}
use Rattle.rv_pmp.specs.declared.span.Span.{Span}
use Rattle.rv_pmp.specs.Mode.{is_machine}
use Rattle.rv_pmp.specs.Entry.{matched, permits, trailing_ones}
use Rattle.rv_pmp.specs.Support.ActiveEntries.{decision, some_on, some_locked, active_of, actives_from}
use Rattle.rv_pmp.specs.Pmp.{PmpState, decided, entry_at, grants, lower_of, matches, off_entry}
use Rattle.rv_pmp.specs.Support.Span.{is_between, span, span_of, holds, meets}

-- ---- the end of the search

pub decision-end : (mode : Mode) (access : Access) (first last : ℕ) (xs : List ActiveEntry) (i : ℕ)
    → length xs ≤ i → decision mode access first last (drop i xs) ≡ None
unfolding decision
decision-end mode access first last xs i h = rw (drop_all i xs h) refl

-- ---- a region as a span

-- a span that begins and ends at words, and has a byte or ends at 0
record IsWhole (s : Span) : Type 0 where
  pub first_word : s.first % 4 ≡ 0
  pub last_word : s.«end» % 4 ≡ 0
  pub some_byte : (s.first < s.«end») ⊎ (s.«end» ≡ 0)

whole_span : (m : Matching) (lower address : ℕ) → IsWhole (span m lower address)
whole_span Napot lower address =
    let k = trailing_ones address in
    let p : (2 ^ (k + 3) % 4 ≡ 0) × (0 < 2 ^ (k + 3)) = (omega (arith, pow-add 2 k 3), omega (arith, pow_pos (k + 3))) in
    let b : ℕ = address / 2 ^ (k + 1) in
    let q : b * 2 ^ (k + 3) % 4 ≡ 0 = omega (arith, ap (λ n. b * n) (pow-add 2 k 3), mul_assoc b (2 ^ k) 8) in
    record { first_word = omega arith; last_word = omega arith; some_byte = inl (omega arith) }
whole_span m lower address = search rules

whole : (lower : ℕ) (e : Entry) → IsWhole (span_of lower e)
unfolding span_of
whole lower e = whole_span e.matching lower e.address

-- the bytes of block q, where blocks have d bytes
block_between : (byte d q : ℕ) → 0 < d → (byte / d == q) ≡ is_between (q * d) (q * d + d) byte
block_between byte d q some = grind (arith, nat_tests, common_steps, eqb-true, div-add-mod', mod_below, add-sub_of_le, div-mul-add)

matched-between : (m : Matching) (lower address byte : ℕ)
    → matched m lower address byte ≡ is_between (span m lower address).first (span m lower address).«end» byte
matched-between m lower address byte = search (rules, nat_tests, block_between, pow_pos)

entry-between : (lower : ℕ) (e : Entry) (byte : ℕ)
    → matched e.matching lower e.address byte ≡ is_between (span_of lower e).first (span_of lower e).«end» byte
unfolding span_of
entry-between lower e byte = matched-between e.matching lower e.address byte

-- ---- the bytes that an entry matches, and the first entry that matches a byte

pub lower_before : (pmp : PmpState) (n : ℕ) → 0 < n → lower_of pmp n ≡ (entry_at pmp (n - 1)).address
lower_before pmp n h = search rules

pub matched_span : (pmp : PmpState) (n lower byte : ℕ) (s : Span) → lower ≡ lower_of pmp n
    → s ≡ span_of lower (entry_at pmp n) → matches pmp n byte ≡ (nat_le s.first byte && nat_lt byte s.«end»)
unfolding span_of
matched_span pmp n lower byte s e f = search (rules, matched-between)

found_first : (p : ℕ → Bool) (a n i : ℕ) → i < n → ((k : ℕ) → a ≤ k → k < a + i → p k ≡ false) → p (a + i) ≡ true
    → find p (range_with_len a n) ≡ Some (a + i)
found_first p a zero i below none is = absurd (omega (arith, below))
found_first p a (suc n) zero below none is = search rules
found_first p a (suc n) (suc i) below none is = grind (arith, nat_tests, common_steps, found_first p (a + 1) n i)

pub none_up_to : (pmp : PmpState) (addr n : ℕ) → ((k : ℕ) → k < n → matches pmp k addr ≡ false)
    → matches pmp n addr ≡ false → (k : ℕ) → k < n + 1 → matches pmp k addr ≡ false
none_up_to pmp addr n none is k h = search (rules, nat_tests)

pub first_match : (pmp : PmpState) (addr i : ℕ) → i < 16 → ((k : ℕ) → k < i → matches pmp k addr ≡ false)
    → matches pmp i addr ≡ true → Some i ≡ find (λ n. matches pmp n addr) (range_with_len 0 16)
first_match pmp addr i below none is =
    let start : 0 + i ≡ i = omega arith in
    sym (found_first (λ n. matches pmp n addr) 0 16 i below (λ k h g. none k (omega (arith, g))) (rw start is)
    ∙ ap Some start)

pub no_match : (pmp : PmpState) (addr n : ℕ) → 16 ≤ n → ((k : ℕ) → k < n → matches pmp k addr ≡ false)
    → None ≡ find (λ n. matches pmp n addr) (range_with_len 0 16)
no_match pmp addr n all none = search rules

-- ---- tests of the bytes of an access

any_between : (f l a n : ℕ)
    → list_any (is_between f l) (range_with_len a (suc n)) ≡ (nat_lt f l && (nat_lt f (a + suc n) && nat_lt a l))
any_between f l a zero = grind (arith, nat_tests)
any_between f l a (suc n) = grind (arith, nat_tests, any_between f l (a + 1) n)

all_between : (f l a n : ℕ)
    → list_all (is_between f l) (range_with_len a (suc n)) ≡ (nat_le f a && nat_le (a + suc n) l)
all_between f l a zero = grind (arith, nat_tests)
all_between f l a (suc n) = grind (arith, nat_tests, all_between f l (a + 1) n)

any_meets : (s : Span) (a n : ℕ) → IsWhole s
    → list_any (is_between s.first s.«end») (range_with_len a (suc n)) ≡ meets s a (a + suc n)
any_meets s a n w = search (rules, any_between, nat_tests)

-- whether an entry matches any of the bytes of an access, and all of them
any_matched : (lower : ℕ) (e : Entry) (a n : ℕ)
    → list_any (matched e.matching lower e.address) (range_with_len a (suc n)) ≡ meets (span_of lower e) a (a + suc n)
any_matched lower e a n = search (rules, nat_tests, entry-between, any_meets, whole)

all_matched : (lower : ℕ) (e : Entry) (a n : ℕ)
    → list_all (matched e.matching lower e.address) (range_with_len a (suc n)) ≡ holds (span_of lower e) a (a + suc n)
all_matched lower e a n = search (rules, nat_tests, entry-between, all_between)

-- ---- the decision by spans is the one by number

-- the answer of an entry, or of the rest
step : Mode → Access → ℕ → ℕ → ActiveEntry → Option Bool → Option Bool
step mode access first last a rest = if meets a.span first last
    then Some (holds a.span first last && permits a.entry mode access) else rest

-- the decision of the entries from one on: the answer of that one, whether it matches addresses or not, or of
-- the rest
decision-more : (mode : Mode) (access : Access) (first last lower : ℕ) (e : Entry) (es : List Entry)
    → decision mode access first last (actives_from lower (e ∷ es)) ≡ step mode access first last (active_of lower e)
    (decision mode access first last (actives_from e.address es))
unfolding decision actives_from step span_of
decision-more mode access first last lower e es = search rules

-- of the entries from number k on
decision-spans : (pmp : PmpState) (mode : Mode) (access : Access) (a n k count : ℕ) → k + count ≡ length pmp.entries
    → unwrap_or (decision mode access a (a + suc n) (actives_from (lower_of pmp k) (drop k pmp.entries)))
    (is_machine mode) ≡ decided pmp mode access (range_with_len a (suc n))
    (find (λ i. list_any (matches pmp i) (range_with_len a (suc n))) (range_with_len k count))
unfolding decision actives_from step
decision-spans pmp mode access a n k zero all = rw (drop_all k pmp.entries (omega (arith, all))) refl
decision-spans pmp mode access a n k (suc count) all = let next : k + 1 ≡ suc k = omega arith in rw (
  drop_more pmp.entries k off_entry (omega (arith, all)),
  decision-more mode access a (a + suc n) (lower_of pmp k) (entry_at pmp k) (drop (k + 1) pmp.entries),
  any_matched (lower_of pmp k) (entry_at pmp k) a n,
  next,
) (grind (arith, nat_tests, common_steps, all_matched, decision-spans pmp mode access a n (suc k) count))

-- ---- answers without a search

-- if no entry matches addresses, none decides
pub decision-off : (mode : Mode) (access : Access) (first last lower : ℕ) (es : List Entry)
    → some_on es ≡ false → decision mode access first last (actives_from lower es) ≡ None
unfolding decision actives_from
decision-off mode access first last lower [] off = refl
decision-off mode access first last lower (e ∷ es) off = grind (arith, nat_tests, common_steps, or_parts, decision-off mode access first last e.address es)

-- a span that has any byte of a part of a word has all of it
word_held : (s : Span) (first last : ℕ) → IsWhole s → first < last → first % 4 + (last - first) ≤ 4
    → meets s first last ≡ true → holds s first last ≡ true
word_held s first last w some within m = search rules

-- so if no entry is locked, machine mode is granted a part of a word
pub decision-word : (access : Access) (first last lower : ℕ) (es : List Entry)
    → some_locked es ≡ false → first < last → first % 4 + (last - first) ≤ 4
    → unwrap_or (decision Machine access first last (actives_from lower es)) true ≡ true
unfolding decision actives_from step
decision-word access first last lower [] free some within = refl
decision-word access first last lower (e ∷ es) free some within = grind (arith, nat_tests, common_steps, or_parts, decision-more, word_held, whole, decision-word access first last e.address es)

-- ---- the answer of the registers

pub decision-grants : (pmp : PmpState) (mode : Mode) (access : Access) (first count : ℕ) → 0 < count
    → unwrap_or (decision mode access first (first + count) (actives_from 0 pmp.entries)) (is_machine mode)
    ≡ grants pmp mode access first count
unfolding grants
decision-grants pmp mode access first zero h = absurd (omega arith)
decision-grants pmp mode access first (suc n) h = decision-spans pmp mode access first n 0 (length pmp.entries) (omega arith)

-- that of the entry that decides, or that of the mode
pub grants-some : (pmp : PmpState) (mode : Mode) (access : Access) (first count : ℕ) (granted : Bool) → 0 < count
    → decision mode access first (first + count) (actives_from 0 pmp.entries) ≡ Some granted
    → grants pmp mode access first count ≡ granted
grants-some pmp mode access first count granted h d = rw (← decision-grants pmp mode access first count h, d) refl

pub grants-none : (pmp : PmpState) (mode : Mode) (access : Access) (first count : ℕ) → 0 < count
    → decision mode access first (first + count) (actives_from 0 pmp.entries) ≡ None
    → grants pmp mode access first count ≡ is_machine mode
grants-none pmp mode access first count h d = rw (← decision-grants pmp mode access first count h, d) refl

pub grants-off : (pmp : PmpState) (mode : Mode) (access : Access) (first count : ℕ) → 0 < count
    → some_on pmp.entries ≡ false → grants pmp mode access first count ≡ is_machine mode
grants-off pmp mode access first count h off = search (rules, grants-none, decision-off)

pub grants-word : (pmp : PmpState) (access : Access) (first count : ℕ) → 0 < count
    → some_locked pmp.entries ≡ false → first % 4 + count ≤ 4 → grants pmp Machine access first count ≡ true
grants-word pmp access first count h free within =
    search (rules, decision-grants pmp Machine access first count h, decision-word)

-- so if no entry is locked, machine mode is granted every aligned access
pub grants-aligned : (pmp : PmpState) (access : Access) (first : ℕ) (w : Width)
    → some_locked pmp.entries ≡ false → first % bytes_of w ≡ 0 → grants pmp Machine access first (bytes_of w) ≡ true
grants-aligned pmp access first w free aligned = search (rules, grants-word)

-- ---- bytes that are granted together are granted one by one

decision_each : (mode : Mode) (access : Access) (first last byte : ℕ) → first ≤ byte → byte < last
    → (xs : List ActiveEntry) → unwrap_or (decision mode access first last xs) (is_machine mode) ≡ true
    → unwrap_or (decision mode access byte (byte + 1) xs) (is_machine mode) ≡ true
unfolding decision
decision_each mode access first last byte from to [] granted = granted
decision_each mode access first last byte from to (x ∷ xs) granted =
    search (rules, and_parts, nat_tests, decision_each mode access first last byte from to xs)

pub grants_each : (pmp : PmpState) (mode : Mode) (access : Access) (first count i : ℕ) → i < count
    → grants pmp mode access first count ≡ true → grants pmp mode access (first + i) 1 ≡ true
grants_each pmp mode access first count i h granted = rw (← decision-grants pmp mode access (first + i) 1 (omega arith))
    (decision_each mode access first (first + count) (first + i) (omega arith) (omega arith) (actives_from 0 pmp.entries)
    (decision-grants pmp mode access first count (omega arith) ∙ granted))

pub ruleset quick_answers = (grants-off, grants-word, grants-some, grants-none)
