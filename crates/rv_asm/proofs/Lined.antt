-- The listing of an accepted source.
use Rattle.std.proofs.lemmas.Grind.{common_steps}
use Rattle.std.proofs.Common.{◌≡◌, ℕ, zero, suc, ◌+◌, ◌≤◌, true, cond, List, [], ◌∷◌, ◌++◌, length, refl, sym, ap, ◌∙◌, arith, append-nil, length-append, ◌-◌, ◌<◌, get_or, slice_range, append_assoc, rules}
use Rattle.std.specs.Prelude.{Option, None, Some, Result, Ok, nat_lt, IfSome, ◌&&◌}
use Rattle.std.specs.Option.{option_map, option_map_or}
use Rattle.std.specs.Result.{result_err, result_unwrap_or}
use Rattle.std.specs.List.{flat_map, All, range_with_len}
use Rattle.std.proofs.lemmas.Bool.Decides.{nat_tests}
use Rattle.rv_source.specs.Reading.{Parsed}
use Rattle.rv_program.specs.declared.fault.FaultKind.{FaultKind}
use Rattle.rv_asm.specs.Symbols.{Definitions}
use Rattle.rv_base.specs.Limits.{ram_base}
use Rattle.rv_asm.specs.Layout.{line_at, definitions, labels_in}
use Rattle.rv_asm.specs.Support.Steps.{address, joined, all_faults, phase_three_fault, up_to, labels, LieInOrder, AreLinesOf, located, noted_with, known_before, bytes_by, listed as listed_of}
use Rattle.rv_asm.proofs.Counting.{joined_none, joined_more, none_last, none_before, answer, first_found, image_by, assembled_is, joined_before, joined_same, up_to_none, up_to_more}
use Rattle.rv_asm.proofs.Rows.{statement_size}
use Rattle.std.specs.List.Sorted.{IsNonDecreasingBy}
use Rattle.std.proofs.Math.Seq.{drop-append_seam, take-append_seam}
use Rattle.std.proofs.lemmas.List.FromFn.{length-map-range_with_len, get_or-map-range_with_len}
use Rattle.std.proofs.lemmas.List.Elements.{All-nil, All-cons, All-push, All-weaker, All-get_or}
use Rattle.std.proofs.lemmas.List.Sorted.{IsNonDecreasingBy-push, IsNonDecreasingBy-short}
use Rattle.rv_base.specs.Lines.{lines}
use Rattle.rv_source.specs.declared.line.Label.{Label}
use Rattle.rv_source.specs.declared.line.Label.TheVariants as label
use Rattle.rv_program.specs.Program.{Assembly}
use Rattle.rv_program.specs.Faults.{Gives}
use Rattle.std.specs.Prelude.{Err}
use Rattle.rv_program.specs.declared.fault.AsmFault.{AsmFault}
use Rattle.rv_asm.specs.Assembly.{all_parsed, line_bytes, assembled}
use Rattle.rv_asm.specs.Lines.{Listed, Located, listed, bytes_of, end_of}
use Rattle.rv_asm.proofs.Reading.{length-parsed}

-- ---- the size of the image

module _ (lines : List Parsed) where
  -- the bytes of n lines without a fault reach from the base to the address following these lines
  pub size_listed : (ds : Definitions) (n : ℕ) → all_faults (λ k. result_err (bytes_by ds lines k)) n ≡ []
      → ram_base + length (joined (λ k. listed_of (bytes_by ds lines k)) n) ≡ address lines n
  unfolding known_before
  size_listed ds zero e = search (rules, joined_none)
  size_listed ds (suc n) e =
      search (rules, joined_more, length-append, none_before, none_last, statement_size, size_listed ds n)

-- ---- an accepted source has no fault

pub record IsAccepted (source : List ℕ) (a : Assembly) : Type 0 where
  pub three : all_faults (phase_three_fault (all_parsed (lines source))) (length (lines source)) ≡ []
  pub is : a.bytes ≡ (image_by (lines source)).bytes

answered : (one two three : List AsmFault) (p a : Assembly) →
    answer (first_found one two three) p ≡ Ok a → (three ≡ []) × (p ≡ a)
answered [] [] [] p a h = (refl, cc)
answered one two three p a h = absurd cc

accepted : (source : List ℕ) (a : Assembly) → assembled source ≡ Ok a → IsAccepted source a
accepted source a h = search (rules, answered, assembled_is)

-- ---- numbers up to one

length_up_to : (f : ℕ → ℕ) (n : ℕ) → length (up_to f n) ≡ suc n
unfolding up_to
length_up_to f n = length-map-range_with_len f 0 (suc n)

up_to_at : (f : ℕ → ℕ) (n i : ℕ) → i ≤ n → get_or (up_to f n) i 0 ≡ f i
unfolding up_to
up_to_at f n i h = get_or-map-range_with_len f 0 (suc n) i i 0 (omega (arith, h)) (omega arith)

-- ---- addresses and labels rise

-- the numbers of elements never fall, and none is above another number
record AreUpTo {X : Type 0} (f : X → ℕ) (here : ℕ) (xs : List X) : Type 0 where
  below : All (λ x. f x ≤ here) xs
  rises : IsNonDecreasingBy f xs

push_up : {X : Type 0} (f : X → ℕ) (a b : ℕ) (xs : List X) (x : X) → AreUpTo f a xs → a ≤ f x → f x ≤ b →
    AreUpTo f b (xs ++ x ∷ [])
push_up f a b xs x h from to = record {
  below = All-push (λ y. f y ≤ b) xs x (All-weaker (λ y. f y ≤ a) (λ y. f y ≤ b) (λ y p. omega arith) xs h.below) to;
  rises = IsNonDecreasingBy-push f xs x h.rises
      (λ d p. let le = All-get_or (λ y. f y ≤ a) xs (length xs - 1) d (omega (arith, p)) h.below in omega (arith, le));
}

goes_up : (ls : List Parsed) (n : ℕ) → address ls n ≤ address ls (suc n)
unfolding known_before
goes_up ls n = omega arith

addresses_up : (ls : List Parsed) (n : ℕ) → AreUpTo (λ x. x) (address ls n) (up_to (address ls) n)
addresses_up ls zero = search (rules, up_to_none, All-nil, All-cons, IsNonDecreasingBy-short)
addresses_up ls (suc n) = search (rules, up_to_more, push_up, goes_up, addresses_up ls n)

labels_up : (here : ℕ) (xs : List (List ℕ × ℕ)) (ls : List Label) → AreUpTo (λ (l : List ℕ × ℕ). l.1) here xs →
    AreUpTo (λ (l : List ℕ × ℕ). l.1) here (xs ++ labels_in here ls)
labels_up here xs [] h = rw append-nil h
labels_up here xs (label.Name name ∷ ls) h = search (
  rules,
  append_assoc,
  labels_up here (xs ++ (name, here) ∷ []) ls
      (push_up (λ (l : List ℕ × ℕ). l.1) here here xs (name, here) h (omega arith) (omega arith)),
)
labels_up here xs (label.Local number ∷ ls) h = labels_up here xs ls h

labels_to : (ls : List Parsed) (n : ℕ) → AreUpTo (λ (l : List ℕ × ℕ). l.1) (address ls n) (labels ls n)
labels_to ls zero = search (rules, joined_none, All-nil, IsNonDecreasingBy-short)
labels_to ls (suc n) =
    let up = labels_up (address ls n) (labels ls n) (line_at ls n).labels (labels_to ls n) in
    let le = goes_up ls n in
    rw joined_more (record { below = search (rules, All-weaker, up, le); rises = up.rises })

pub lie_in_order : (ls : List Parsed) (n : ℕ) →
    LieInOrder (record { addresses = up_to (address ls) n; labels = labels ls n })
unfolding known_before
lie_in_order ls n = search (rules, length_up_to, up_to_at, addresses_up ls n, labels_to ls n)

-- ---- the bytes of a line

part_is : (xs ys zs : List ℕ) → slice_range (xs ++ (ys ++ zs)) (length xs) (length (xs ++ ys)) ≡ ys
part_is xs ys zs = grind (arith, nat_tests, common_steps, length-append, drop-append_seam, take-append_seam)

bytes_between : (image xs : List ℕ) (f : ℕ → List ℕ) (n k : ℕ) → image ≡ joined f n → k < n →
    nat_lt (suc k) (length xs) ≡ true → get_or xs k 0 - ram_base ≡ length (joined f k) →
    get_or xs (suc k) 0 - ram_base ≡ length (joined f (suc k)) →
    option_map_or (λ a. slice_range image (a - ram_base) (get_or xs (suc k) 0 - ram_base))
    (cond (nat_lt 0 (suc k) && nat_lt (suc k) (length xs)) (Some (get_or xs (suc k - 1) 0)) None) [] ≡ f k
bytes_between image xs f n k i h t x y = search (rules, joined_before f (suc k) n, joined_more, append_assoc, part_is)

-- ---- the listing

module _ (source : List ℕ) (a : Assembly) where
  abbrev parsed : List Parsed
  parsed = all_parsed (lines source)

  abbrev n : ℕ
  n = length (lines source)

  abbrev image_of : ℕ → List ℕ
  image_of k = result_unwrap_or (line_bytes parsed k) []

  abbrev listing : Listed
  listing = record { assembly = a; addresses = up_to (address parsed) n; labels = labels parsed n }

  same_length : length parsed ≡ n
  same_length = length-parsed (lines source)

  listing_is : assembled source ≡ Ok a → listed source ≡ Ok listing
  unfolding listed up_to joined
  listing_is h = rw (h, same_length) refl

  address_at : (k : ℕ) → k ≤ n → get_or listing.addresses k 0 ≡ address parsed k
  address_at k h = up_to_at (address parsed) n k h

  count_is : length listing.addresses ≡ suc n
  count_is = length_up_to (address parsed) n

  module _ (ok : IsAccepted source a) where
    image_is : a.bytes ≡ joined image_of n
    image_is = search (rules, ok.is, same_length)

    -- the image reaches from the base to the last address
    reaches : (k : ℕ) → k ≤ n → ram_base + length (joined image_of k) ≡ address parsed k
    reaches k h = size_listed parsed (definitions parsed) k (none_before (phase_three_fault parsed) k n ok.three h)

    reaches_end : end_of listing ≡ ram_base + length a.bytes
    reaches_end = search (rules, count_is, image_is, address_at, reaches)

    is_ok : (r : Result (List ℕ) FaultKind) → result_err r ≡ None → r ≡ Ok (result_unwrap_or r [])
    is_ok r h = search rules

    line_is : (k : ℕ) → k < n → bytes_of listing (suc k) ≡ image_of k
    line_is k h = bytes_between a.bytes listing.addresses image_of n k image_is h (search (rules, nat_tests, count_is))
        (search (rules, address_at, reaches)) (search (rules, address_at, reaches))

    all_joined : flat_map (λ k. bytes_of listing (suc k)) (range_with_len 0 n) ≡ a.bytes
    unfolding joined
    all_joined = search (rules, joined_same, line_is, image_is)

  pub are_lines : assembled source ≡ Ok a → AreLinesOf source listing
  are_lines h = let ok = accepted source a h in record {
    value = listing_is h;
    each = λ k p. is_ok ok (line_bytes parsed k) (none_last (phase_three_fault parsed) k
        (none_before (phase_three_fault parsed) (suc k) n ok.three (omega (arith, p)))) ∙ ap (λ bs. Ok bs) (sym (line_is ok k p));
    all = all_joined ok;
    end = reaches_end ok;
  }

-- a fault of the assembly is one of the listing
pub fails_listed : (source : List ℕ) (fault : AsmFault) → Gives (λ x. x) (Err fault) (assembled source) →
    Gives (λ x. x) (Err fault) (listed source)
unfolding listed
fails_listed source fault h = search rules

pub ruleset list_steps = (fails_listed, lie_in_order)

-- ---- the notes of lines

pub noted_begun : (ls : List Parsed) (notes : Option Located) → IfSome notes (λ n. n ≡ located [] 0) →
    notes ≡ option_map (λ _. located ls 0) notes
unfolding known_before up_to joined
noted_begun ls notes h = search rules

pub noted_more : (ls : List Parsed) (n : ℕ) (first : Option Located) →
    option_map (noted_with (address ls n) (line_at ls n).labels (address ls (suc n))) (option_map (λ _. located ls n) first)
    ≡ option_map (λ _. located ls (suc n)) first
noted_more ls n first = search (rules, up_to_more, joined_more)
