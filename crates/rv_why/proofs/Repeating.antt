-- The number of the traps before one that are the same.
use Rattle.std.proofs.Common.{◌≡◌, ℕ, zero, suc, ◌+◌, ◌-◌, ◌<◌, refl, arith}
use native.Mathlib.Numerals.{unary_clauses}
use Rattle.std.specs.Prelude.{List, cond}
use Rattle.rv_board.specs.declared.event.TrapRecord.{TrapRecord}
use Rattle.rv_why.specs.Repeats.{is_followed, same_before}

pub same_first : (ts : List TrapRecord) → same_before ts 0 ≡ 0
unfolding same_before
same_first ts = refl

pub same_at : (ts : List TrapRecord) (n : ℕ) → 0 < n
    → same_before ts n ≡ cond (is_followed ts (n - 1)) (same_before ts (n - 1) + 1) 0
unfolding same_before
same_at ts zero h = absurd (omega arith)
same_at ts (suc n) h = simp unary_clauses refl
