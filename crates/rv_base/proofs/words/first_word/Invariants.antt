use Rattle.std.proofs.Common.{◌≡◌, ◌≤◌, length}
use Rattle.rv_base.specs.Words.{words}
use Rattle.rv_base.proofs.words.first_word.Given as goal

abbrev pub invariant-loop-n : goal.invariant-loop-n
invariant-loop-n l = record { same : words l.rest ≡ words l.text; within : length l.rest ≤ length l.text }

abbrev pub decreases-loop-n : goal.decreases-loop-n
decreases-loop-n l = length l.rest
