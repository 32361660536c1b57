-- Pieces of text, one after another: after a head, or before those that are left.
use Rattle.std.proofs.Common.{rules, ◌≡◌, ℕ, zero, suc, ◌+◌, ◌<◌, ◌≤◌, List, ◌∷◌, ◌++◌, length, drop, sym, ◌∙◌, ap, append-nil, append_assoc, arith}
use Rattle.std.proofs.lemmas.Fmt.{length-decimal-le}
use Rattle.std.proofs.lemmas.List.{drop_more}
use Rattle.std.proofs.lemmas.Option.{get_or_from_slice_get, slice_get_within}
use Rattle.std.specs.Fmt.{decimal}
use Rattle.std.specs.List.{flat_map, range_with_len}
use Rattle.std.specs.Prelude.{Option, Some, IsSome, slice_get}
use Rattle.rv_board.specs.declared.event.TrapRecord.{TrapRecord}
use Rattle.rv_monitor.specs.Views.{pieces, trap_text}

pub no_piece_after : (head : List ℕ) (piece : ℕ → List ℕ) → head ++ pieces piece 0 ≡ head
unfolding pieces
no_piece_after head piece = search (rules, arith, append-nil)

more_from : (piece : ℕ → List ℕ) (a n : ℕ)
    → flat_map piece (range_with_len a (suc n)) ≡ flat_map piece (range_with_len a n) ++ piece (a + n)
more_from piece a zero = let none : a + 0 ≡ a = omega arith in append-nil (piece a) ∙ ap piece (sym none)
more_from piece a (suc n) = search (rules, arith, append_assoc, more_from piece (a + 1) n)

pub one_more_after : (head : List ℕ) (piece : ℕ → List ℕ) (n : ℕ) →
    head ++ pieces piece (n + 1) ≡ head ++ pieces piece n ++ piece n
unfolding pieces
one_more_after head piece n = search (rules, arith, more_from, append_assoc)

-- a text of a head and the first n pieces, with the next piece appended, has n + 1 pieces
pub piece_appended : (head before after : List ℕ) (piece : ℕ → List ℕ) (n : ℕ)
    → before ≡ head ++ pieces piece n → after ≡ before ++ piece n → after ≡ head ++ pieces piece (n + 1)
piece_appended head before after piece n stands appended = search (rules, arith, one_more_after)

-- ---- the lines of traps

first_left : (ts : List TrapRecord) (i : ℕ) (t : TrapRecord) → slice_get ts i ≡ Some t
    → drop i ts ≡ t ∷ drop (i + 1) ts
first_left ts i t e = rw (← get_or_from_slice_get ts i t t e) (drop_more ts i t (slice_get_within ts i t e))

-- the first of those that are left is appended
pub trap_appended : (before after : List ℕ) (ts : List TrapRecord) (i : ℕ) (t : TrapRecord) → Some t ≡ slice_get ts i
    → after ≡ before ++ trap_text t
    → after ++ flat_map trap_text (drop (i + 1) ts) ≡ before ++ flat_map trap_text (drop i ts)
trap_appended before after ts i t here appended = search (rules, arith, first_left, append_assoc)

-- there is a trap at each index below the count
pub has_trap : (ts : List TrapRecord) (i : ℕ) (answered : Option TrapRecord) → answered ≡ slice_get ts i →
    i < length ts → IsSome answered
has_trap (t ∷ ts) (suc i) answered e h = has_trap ts i answered e (omega arith)
has_trap ts i answered e h = search (rules, arith)

-- ---- the number of digits of a decimal number

pub two_at_most : (n : ℕ) → n < 100 → length (decimal n) ≤ 2
two_at_most n h = length-decimal-le 2 n (omega arith) (omega arith) (omega arith)
