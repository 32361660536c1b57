-- The first line from one on that has bytes, and the value of a base.
use Rattle.std.proofs.lemmas.Bool.Decides.{nat_tests}
use Rattle.std.proofs.Common.{rules, ◌≡◌, ℕ, suc, ◌+◌, ◌-◌, ◌<◌, ◌≤◌, Bool, cond, List, [], ◌∷◌, length, map, refl, arith}
use Rattle.std.specs.Prelude.{Option, Some, None, nat_lt}
use Rattle.std.specs.Option.{option_map, option_or}
use Rattle.rv_base.specs.Tables.{lookup}
use Rattle.rv_board.specs.Support.State.{BoardState}
use Rattle.rv_asm.specs.Lines.{Listed, bytes_of}
use Rattle.rv_operands.specs.Operands.{base_value, line_with_bytes}
use Rattle.rv_operands.specs.Support.Words.{base_by}

pub line_next : (l : Listed) (n : ℕ) → n < length l.addresses
    → line_with_bytes l n ≡ cond (nat_lt 0 (length (bytes_of l n))) (Some n) (line_with_bytes l (n + 1))
unfolding line_with_bytes
line_next l n h =
    let more : length l.addresses - n ≡ suc (length l.addresses - (n + 1)) = omega (arith, h) in rw more refl

pub no_line : (l : Listed) (n : ℕ) → length l.addresses ≤ n → line_with_bytes l n ≡ None
unfolding line_with_bytes
no_line l n h = let none : length l.addresses - n ≡ 0 = omega (arith, h) in rw none refl

-- ---- the value of a base

pick : (f : ℕ → ℕ) (b : Bool) (x : ℕ) (o p : Option ℕ) → option_map f o ≡ p
    → option_map f (cond b (Some x) o) ≡ cond b (Some (f x)) p
pick f b x o p e = search (rules, arith, nat_tests)

each : (f : ℕ → ℕ) (word : List ℕ) (rows : List (List ℕ × ℕ))
    → option_map f (lookup word rows) ≡ lookup word (map (λ row. (row.0, f row.1)) rows)
each f word [] = refl
each f word (row ∷ rows) = search (rules, arith, nat_tests, pick, (each f word rows))

or_else : (b : Bool) (x : ℕ) (o p : Option ℕ) → o ≡ p → option_or (cond b (Some x) None) o ≡ cond b (Some x) p
or_else b x o p e = search (rules, arith, nat_tests)

pub base_told : (r : Option ℕ) (l : Listed) (b : BoardState) (word : List ℕ) → r ≡ base_by l b word
    → r ≡ base_value l b word
unfolding base_value
base_told r l b word e = search (rules, arith, nat_tests, or_else, each)
