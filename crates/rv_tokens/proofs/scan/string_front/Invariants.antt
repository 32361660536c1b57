use Rattle.std.proofs.Common.{◌-◌, length}
use Rattle.rv_tokens.proofs.StringEnds.{IsScanned}
use Rattle.rv_tokens.proofs.scan.string_front.Given as goal

abbrev pub invariant-loop-n : goal.invariant-loop-n
invariant-loop-n l = IsScanned l.text l.n

abbrev pub decreases-loop-n : goal.decreases-loop-n
decreases-loop-n l = length l.text - l.n
