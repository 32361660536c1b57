use Rattle.std.proofs.Common.{◌≡◌, ◌-◌, map}
use Rattle.std.specs.List.{range_with_len}
use Rattle.rv_answers.specs.States.{source_of}
use Rattle.rv_answers.proofs.states.sources_of.Given as goal

abbrev pub invariant-loop-number : goal.invariant-loop-number
invariant-loop-number l = l.states.items ≡ map (source_of l.plic) (range_with_len 1 (l.number - 1))
