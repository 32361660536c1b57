-- The lines of an image, one record after another, and the image that is read back from them.
use Rattle.std.proofs.Common.{rules, ◌≡◌, ℕ, zero, suc, ◌+◌, ◌*◌, ◌/◌, ◌%◌, ◌^◌, ◌<◌, ◌≤◌, List, [], ◌∷◌, ◌++◌, take, drop, length, Some, refl, arith, append_assoc, append-nil, eq-eqb, length-append, length-drop, length-take}
use Rattle.std.specs.Prelude.{min}
use Rattle.std.specs.List.{All, sum}
use Rattle.std.specs.Option.{option_map}
use Rattle.std.specs.Str.Lines.{strip_carriage_return}
use Rattle.std.proofs.lemmas.Bool.{cases_lt}
use Rattle.std.proofs.lemmas.Grind.{flat_map-append}
use Rattle.std.proofs.lemmas.List.{take-append-drop, drop_all, take_min}
use Rattle.std.proofs.lemmas.List.Elements.{All-cons, All-head, All-tail, All-push, All-take, All-drop}
use Rattle.std.proofs.lemmas.List.Sums.{sum_by-append}
use Rattle.std.proofs.lemmas.Str.{digit_value-digit_char}
use Rattle.std.proofs.Math.Seq.{take-append_seam}
use Rattle.rv_base.specs.Digits.{digit, hex, hex_digit}
use Rattle.rv_base.specs.Limits.{ram_base, image_limit}
use Rattle.rv_base.specs.Lines.{split, lines}
use Rattle.rv_ihex.specs.Hex.{bytes_of, record_in, record_of, placed, image_of}
use Rattle.rv_ihex.specs.Support.Written.{digits, fields, with_sum, line_of, end_line, upper_lines, lines_from, text_of}

-- ---- lines

more_lines : (most at : ℕ) (bs : List ℕ) → 0 < length bs → lines_from (suc most) at bs
    ≡ upper_lines at ++ line_of 0 (at % 65536) (take 16 bs) ∷ lines_from most (at + 16) (drop 16 bs)
unfolding lines_from
more_lines most at bs some = search (rules, arith)

-- any number of records is as good as another, if there are enough
enough : (most at : ℕ) (bs : List ℕ) → length bs ≤ most → lines_from most at bs ≡ lines_from (suc most) at bs
unfolding lines_from
enough zero at bs short = search (rules, arith, eq-eqb)
enough (suc most) at bs short = search (rules, arith, length-drop, enough most (at + 16) (drop 16 bs))

-- one more record: what is left is what follows it
pub more_text : (old : List ℕ) (most at : ℕ) (bs : List ℕ) → 0 < length bs → length bs ≤ most →
    old ++ text_of (lines_from most at bs) ≡
    (old ++ text_of (upper_lines at ++ line_of 0 (at % 65536) (take (min 16 (length bs)) bs) ∷ []))
    ++ text_of (lines_from most (at + 16) (drop (min 16 (length bs)) bs))
more_text old most at bs some short =
    search (rules, arith, take_min, drop_all, cases_lt, more_lines, enough, append_assoc, flat_map-append)

-- no more bytes: the line of the end is left
pub last_text : (most at : ℕ) (bs : List ℕ) → length bs ≡ 0 → text_of (lines_from most at bs) ≡ end_line ++ 10 ∷ []
unfolding lines_from
last_text most at bs none = search (rules, arith, eq-eqb, append-nil)

pub ruleset row_steps = (more_text, last_text)

-- ---- records

abbrev IsByte : ℕ → Type 0
IsByte b = b < 256

bytes_back : (bs : List ℕ) → All IsByte bs → bytes_of (length (digits bs) / 2) (digits bs) ≡ Some bs
unfolding bytes_of hex hex_digit
bytes_back [] h = refl
bytes_back (b ∷ bs) h =
    let small : b < 256 = All-head IsByte b bs h in
    let back = bytes_back bs (All-tail IsByte b bs h) in
    let half : suc (suc (length (digits bs))) / 2 ≡ suc (length (digits bs) / 2) = omega arith in
    search (rules, arith, digit_value-digit_char)

line_back : (kind offset : ℕ) (content : List ℕ) →
    kind < 256 → offset < 65536 → length content < 256 → All IsByte content →
    record_of (line_of kind offset content) ≡ Some (record { offset = offset; kind = kind; content = content })
unfolding record_of line_of record_in
line_back kind offset content k o short h =
    let bs = fields kind offset content in
    let whole : 256 * (offset / 256) + offset % 256 ≡ offset = omega arith in
    let total : sum (with_sum bs) % 256 ≡ 0 = search (rules, arith, sum_by-append) in
    let all : All IsByte (with_sum bs) = All-push IsByte bs _ (search (rules, arith, All-cons)) (omega arith) in
    let back = bytes_back (with_sum bs) all in
    search (rules, arith, eq-eqb, length-append, take-append_seam)

-- ---- what records place

placed_end : (most u n at : ℕ) → placed u n (lines_from most at []) ≡ Some []
unfolding placed lines_from
placed_end zero u n at = search (rules, arith, line_back)
placed_end (suc most) u n at = search (rules, arith, line_back)

placed_row : (u at : ℕ) (row : List ℕ) (ls : List (List ℕ)) → length row < 256 → All IsByte row → at < 2 ^ 32 →
    (0 < at % 65536 → u ≡ at / 65536) → placed u at (upper_lines at ++ line_of 0 (at % 65536) row ∷ ls)
    ≡ option_map (λ (bs : List ℕ). row ++ bs) (placed (at / 65536) (at + length row) ls)
unfolding placed
placed_row u at row ls short bytes low upper = search (rules, arith, line_back, eq-eqb)

placed_back : (most u n at : ℕ) (bs : List ℕ) → length bs ≤ most → All IsByte bs → at % 16 ≡ 0 →
    (0 < length bs → n ≡ at) → (0 < length bs → at + length bs ≤ 2 ^ 32) → (0 < at % 65536 → u ≡ at / 65536) →
    placed u n (lines_from most at bs) ≡ Some bs
placed_back most u n at [] short bytes m next fits upper = placed_end most u n at
placed_back zero u n at (b ∷ bs) short bytes m next fits upper = absurd (omega arith)
placed_back (suc most) u n at (b ∷ bs) short bytes m next fits upper =
    let row = take 16 (b ∷ bs) in
    let size = length-take 16 (b ∷ bs) in
    let left = length-drop 16 (b ∷ bs) in
    let low = fits (omega arith) in
    rw (
      next (omega arith),
      more_lines most at (b ∷ bs) (omega arith),
      placed_row u at row _ (omega arith) (All-take IsByte 16 (b ∷ bs) bytes) (omega arith) upper,
      placed_back most (at / 65536) (at + length row) (at + 16) (drop 16 (b ∷ bs)) (omega arith)
          (All-drop IsByte 16 (b ∷ bs) bytes) (omega arith) (λ p. omega arith) (λ p. omega arith) (λ p. omega arith),
      take-append-drop 16 (b ∷ bs),
    ) refl

-- ---- lines that are read

split_digits : (bs rest : List ℕ) → split (digits bs ++ 10 ∷ rest) ≡ digits bs ∷ split rest
unfolding split hex
split_digits [] rest = refl
split_digits (b ∷ bs) rest = search (rules, arith, split_digits bs rest)

no_return : (a : ℕ) (bs : List ℕ) → 13 < a → strip_carriage_return (a ∷ digits bs) ≡ a ∷ digits bs
unfolding hex
no_return a [] h = search (rules, arith)
no_return a (b ∷ bs) h =
    let above : 13 < digit (b % 16) = search (rules, arith) in search (rules, arith, no_return (digit (b % 16)) bs)

line_read : (kind offset : ℕ) (content rest : List ℕ) →
    lines (line_of kind offset content ++ 10 ∷ rest) ≡ line_of kind offset content ∷ lines rest
unfolding line_of split
line_read kind offset content rest = search (rules, arith, split_digits, no_return)

lines_back : (most at : ℕ) (bs : List ℕ) → lines (text_of (lines_from most at bs)) ≡ lines_from most at bs
unfolding lines_from split
lines_back zero at bs = search (rules, append_assoc, line_read)
lines_back (suc most) at bs = search (rules, append_assoc, line_read, lines_back most (at + 16) (drop 16 bs))

pub image_back : (text image : List ℕ) → text ≡ text_of (lines_from (length image) ram_base image) →
    length image ≤ image_limit → All IsByte image → image_of text ≡ Some image
image_back text image is short h = search (rules, lines_back, placed_back)
