use Rattle.std.proofs.Common.{◌≡◌, ◌==◌, ℕ, List, map}
use Rattle.std.specs.Prelude.{◌&&◌, filter, not, slice_index}
use Rattle.std.specs.List.{range_with_len}
use Rattle.rv_answers.specs.declared.convention.Unrestored.{Unrestored}
use Rattle.rv_convention.specs.Convention.{is_restored}
use Rattle.rv_convention.specs.declared.calls.Open.{Open}
use Rattle.rv_convention.proofs.calls.unrestored.Given as goal

-- those of the first n registers
abbrev pub missing_below : Open → List ℕ → ℕ → List Unrestored
missing_below c now n = map (λ r. record { register = r; entry = slice_index c.registers r; now = slice_index now r })
    (filter (λ r. is_restored c.entry r && not (slice_index now r == slice_index c.registers r)) (range_with_len 0 n))

abbrev pub invariant-loop-number : goal.invariant-loop-number
invariant-loop-number l = l.missing.items ≡ missing_below l.call l.now l.number
