use Rattle.std.proofs.Common.{length}
use Rattle.rv_asm.proofs.symbols.Scope.+terms.Given as goal

abbrev pub decreases-terms : goal.decreases-terms
decreases-terms l = length l.terms.now
