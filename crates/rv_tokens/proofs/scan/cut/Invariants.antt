use Rattle.std.proofs.Common.{◌≡◌, ◌+◌, ◌≤◌, length}
use Rattle.rv_tokens.specs.Support.Cuts.{tokens_after, with_tokens}
use Rattle.rv_tokens.proofs.scan.cut.Given as goal

abbrev pub invariant-loop-rest : goal.invariant-loop-rest
invariant-loop-rest l = (with_tokens l.out.items (tokens_after l.rest 0) ≡ tokens_after l.line 0)
    × (length l.out.items + length l.rest ≤ length l.line)

abbrev pub decreases-loop-rest : goal.decreases-loop-rest
decreases-loop-rest l = length l.rest
