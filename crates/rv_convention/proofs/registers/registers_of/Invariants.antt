use Rattle.std.proofs.Common.{◌≡◌, ℕ, ◌<◌, get_or, length, slice_index}
use Rattle.rv_convention.proofs.registers.registers_of.Given as goal

-- the registers below the number stand in their places
abbrev pub invariant-loop-number : goal.invariant-loop-number
invariant-loop-number l =
    (length l.values ≡ 32) × ((k : ℕ) → k < l.number → get_or l.values k 0 ≡ slice_index l.board.machine.registers k)
