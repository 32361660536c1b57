use Rattle.std.proofs.Common.{◌≡◌, ℕ, ◌<◌, false}
use Rattle.rv_pmp.specs.Pmp.{matches}
use Rattle.rv_pmp.proofs.pmp.Pmp.decider.Given as goal

-- no entry below the number matches the byte
abbrev pub invariant-loop-number : goal.invariant-loop-number
invariant-loop-number l = (k : ℕ) → k < l.number → matches l.self k l.addr ≡ false
