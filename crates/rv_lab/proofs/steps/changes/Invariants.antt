use Rattle.std.proofs.Common.{◌≡◌, ℕ, ◌==◌, List, map}
use Rattle.std.specs.Prelude.{filter, not, slice_index}
use Rattle.std.specs.List.{range_with_len}
use Rattle.rv_answers.specs.declared.values.RegisterValue.{RegisterValue}
use Rattle.rv_lab.proofs.steps.changes.Given as goal

-- those of the first n registers
abbrev pub changed_below : (before now : List ℕ) → ℕ → List RegisterValue
changed_below before now n = map (λ r. record { register = r; value = slice_index now r })
    (filter (λ r. not (slice_index now r == slice_index before r)) (range_with_len 0 n))

abbrev pub invariant-loop-number : goal.invariant-loop-number
invariant-loop-number l = l.changed.items ≡ changed_below l.before l.now l.number
