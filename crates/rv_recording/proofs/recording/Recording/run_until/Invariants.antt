use Rattle.rv_recording.specs.Until.{until_ends}
use Rattle.rv_recording.proofs.Running.{Going}
use Rattle.rv_recording.proofs.recording.Recording.run_until.Given as goal

abbrev pub invariant-loop-done : goal.invariant-loop-done
invariant-loop-done l = Going (until_ends l.condition l.fn.self.session) (λ i. tt {0}) l.fn.self l.self (tt {0}) l.done
