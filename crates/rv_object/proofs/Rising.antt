-- The lines that have bytes, one by one, and that they rise.
use Rattle.std.proofs.lemmas.Bool.Decides.{nat_tests}
use Rattle.std.proofs.Common.{rules, ◌≡◌, ℕ, zero, suc, ◌+◌, ◌-◌, ◌<◌, ◌≤◌, List, [], ◌∷◌, ◌++◌, arith}
use Rattle.rv_asm.specs.Lines.{Listed}
use Rattle.rv_elf.specs.LineNumbers.{Rises}
use Rattle.rv_elf.specs.declared.lines.PlacedLine.{PlacedLine}
use Rattle.rv_object.specs.Placed.{placed_line, placed_from}

less : (m n : ℕ) (ls : List PlacedLine) → m ≤ n → Rises n ls → Rises m ls
less m n [] low h = h
less m n (l ∷ ls) low h = (omega (arith, h.0), h.1)

rises_from : (l : Listed) (m n count : ℕ) → m ≤ n → Rises m (placed_from l n count)
unfolding placed_from
rises_from l m n zero low = tt
rises_from l m n (suc count) low = search (rules, arith, less, rises_from l (suc n) (suc n) count)

pub rises_all : (l : Listed) (ls : List PlacedLine) (count : ℕ) → ls ≡ placed_from l 1 count → Rises 1 ls
rises_all l ls count is = rw is (rises_from l 1 1 count (omega arith))

-- what is left is a line, and what follows it
pub next_line : (l : Listed) (line next count : ℕ) → next ≡ line + 1 → line < count →
    placed_from l (suc line) (count - line) ≡ placed_line l next ++ placed_from l (suc next) (count - next)
unfolding placed_from
next_line l line next count is below = let k : count - line ≡ suc (count - next) = omega arith in search (rules, arith)

-- nothing is left
pub no_line : (l : Listed) (line count : ℕ) → count ≤ line → placed_from l (suc line) (count - line) ≡ []
unfolding placed_from
no_line l line count above = search (rules, arith, nat_tests)

pub all_done : (l : Listed) (out all : List PlacedLine) (line count : ℕ) → count ≤ line →
    out ++ placed_from l (suc line) (count - line) ≡ all → out ≡ all
all_done l out all line count above h = search (rules, arith, nat_tests, no_line)
