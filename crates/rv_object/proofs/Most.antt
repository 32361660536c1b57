-- The most bytes that a file has.
use Rattle.std.proofs.lemmas.Bool.Decides.{nat_tests}
use Rattle.std.proofs.Common.{rules, ◌≡◌, ℕ, ◌+◌, ◌-◌, ◌^◌, ◌<◌, ◌≤◌, List, [], ◌∷◌, ◌++◌, map, refl, arith}
use Rattle.std.proofs.lemmas.Bool.{cases_lt}
use Rattle.rv_elf.specs.Size.{rows_size, step_size, symbols_size}
use Rattle.rv_elf.specs.declared.lines.PlacedLine.{PlacedLine}

-- ---- rows

pub no_row : (size last : ℕ) (ps : List PlacedLine) → [] ≡ ps → (ls : List PlacedLine) →
    size + rows_size last (ps ++ ls) ≡ size + rows_size last ls
no_row size last ps is ls = rw (← is) refl

pub row_added : (old last new : ℕ) (p : PlacedLine) (ps : List PlacedLine) → p ∷ [] ≡ ps →
    new ≡ old + (9 + step_size (p.line - last)) → (ls : List PlacedLine) →
    old + rows_size last (ps ++ ls) ≡ new + rows_size p.line ls
row_added old last new p ps is e ls = rw (← is) (omega (arith, e))

pub row_exceeds : (old last : ℕ) (p : PlacedLine) (ps : List PlacedLine) → p ∷ [] ≡ ps →
    (old + (9 + step_size (p.line - last)) < 2 ^ 32 → ⊥) → (ls : List PlacedLine) →
    2 ^ 32 ≤ old + rows_size last (ps ++ ls)
row_exceeds old last p ps is h ls = search (rules, arith, nat_tests, cases_lt)

-- ---- symbols

pub appended : (xs ys : List (List ℕ × ℕ)) → symbols_size (map (λ (p : List ℕ × ℕ). p.0) (xs ++ ys))
    ≡ symbols_size (map (λ (p : List ℕ × ℕ). p.0) xs) + symbols_size (map (λ (p : List ℕ × ℕ). p.0) ys)
appended [] ys = omega arith
appended (x ∷ xs) ys = omega (arith, appended xs ys)
