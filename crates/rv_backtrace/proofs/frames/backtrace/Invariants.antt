use Rattle.rv_asm.specs.Seen.{seen}
use Rattle.rv_backtrace.proofs.Walked.{Walked}
use Rattle.rv_backtrace.proofs.frames.backtrace.Given as goal

abbrev pub invariant-loop-told : goal.invariant-loop-told
invariant-loop-told l = Walked (seen l.listing) l.rows l.board l.frames.items l.level l.told
