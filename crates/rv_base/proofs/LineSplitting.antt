-- The first line of a text.
use Rattle.std.proofs.lemmas.Bool.Decides.{nat_tests}
use Rattle.std.proofs.lemmas.Grind.{common_steps}
use Rattle.std.proofs.Common.{rules, ◌≡◌, ℕ, ◌<◌, ◌≤◌, Bool, true, false, List, [], ◌∷◌, length, take, drop, refl, arith, ◌==◌}
use Rattle.std.proofs.Math.Numerals.{one-add}
use Rattle.std.specs.Prelude.{Some, None}
use Rattle.std.specs.List.{onto_first, position_or_len, position}
use Rattle.std.proofs.lemmas.List.{drop_all, take_all, length-map}
use Rattle.std.specs.Str.Lines.{strip_carriage_return}
use Rattle.rv_base.specs.Lines.{split, lines}
use Rattle.rv_base.proofs.WordSplitting.{position_some, position_none}

-- how many bytes stand before the first LF
abbrev pub until_feed : List ℕ → ℕ
until_feed s = position_or_len (λ b. b == 10) s

onto_front : (b : ℕ) (bs : List ℕ) → ((0 < length bs) →
    split bs ≡ take (until_feed bs) bs ∷ split (drop 1 (drop (until_feed bs) bs)))
    → onto_first b (split bs) ≡ (b ∷ take (until_feed bs) bs) ∷ split (drop 1 (drop (until_feed bs) bs))
unfolding split
onto_front b bs h = search rules

split_step : (b : ℕ) (bs : List ℕ) (t : Bool) → (b == 10) ≡ t →
    (0 < length bs → split bs ≡ take (until_feed bs) bs ∷ split (drop 1 (drop (until_feed bs) bs)))
    → split (b ∷ bs) ≡ take (until_feed (b ∷ bs)) (b ∷ bs) ∷ split (drop 1 (drop (until_feed (b ∷ bs)) (b ∷ bs)))
unfolding split
split_step b bs true e h = rw e refl
split_step b bs false e h = rw (e, one-add) (onto_front b bs h)

pub split_front : (s : List ℕ) → 0 < length s → split s ≡ take (until_feed s) s ∷ split (drop 1 (drop (until_feed s) s))
split_front [] h = absurd (omega arith)
split_front (b ∷ bs) h = split_step b bs (b == 10) refl (split_front bs)

-- a text with a LF
pub lines_feed : (s : List ℕ) (n : ℕ) → 0 < length s → Some n ≡ position (λ b. b == 10) s →
    lines s ≡ strip_carriage_return (take n s) ∷ lines (drop 1 (drop n s))
lines_feed s n h e = grind (arith, nat_tests, common_steps, position_some, split_front)

-- a text without one
pub lines_last : (s : List ℕ) → 0 < length s → None ≡ position (λ b. b == 10) s →
    lines s ≡ strip_carriage_return s ∷ lines (drop (length s) s)
lines_last s h e = grind (arith, nat_tests, common_steps, position_none, split_front, take_all, drop_all)

-- an empty text has no line
pub lines_end : (s : List ℕ) → length s ≡ 0 → lines s ≡ []
unfolding split
lines_end [] h = refl
lines_end (b ∷ bs) h = absurd (omega arith)

split_length : (s : List ℕ) → length (split s) ≤ length s
unfolding split
split_length [] = omega arith
split_length (b ∷ bs) = search (rules, split_length bs)

-- a text has no more lines than bytes
pub lines_length : (s : List ℕ) → length (lines s) ≤ length s
lines_length s = omega (arith, length-map (split s) strip_carriage_return, split_length s)
