use Rattle.std.proofs.Common.{◌≡◌, ℕ, ◌<◌, ◌==◌, false}
use Rattle.rv_lab.specs.Support.Rows.{char_at}
use Rattle.rv_lab.proofs.memory.text_length.Given as goal

-- no byte so far is zero
abbrev pub invariant-loop-offset : goal.invariant-loop-offset
invariant-loop-offset l = (k : ℕ) → k < l.offset → (char_at l.board l.address k == 0) ≡ false
