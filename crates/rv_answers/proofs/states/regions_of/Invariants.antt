use Rattle.std.proofs.Common.{◌≡◌, ℕ, ◌==◌, Bool, map}
use Rattle.std.specs.Prelude.{filter, not}
use Rattle.std.specs.List.{range_with_len}
use Rattle.rv_pmp.specs.Entry.{matching_code}
use Rattle.rv_pmp.specs.Pmp.{PmpState, entry_at}
use Rattle.rv_answers.specs.States.{region_of}
use Rattle.rv_answers.proofs.states.regions_of.Given as goal

-- an entry is on
abbrev pub is_on : PmpState → ℕ → Bool
is_on pmp n = not (matching_code (entry_at pmp n).matching == 0)

abbrev pub invariant-loop-number : goal.invariant-loop-number
invariant-loop-number l = l.found.items ≡ map (region_of l.pmp) (filter (is_on l.pmp) (range_with_len 0 l.number))
