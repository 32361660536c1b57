use Rattle.rv_recording.specs.Out.{open_at, out_ends}
use Rattle.rv_recording.proofs.Running.{Going}
use Rattle.rv_recording.proofs.recording.Recording.run_out.Given as goal

abbrev pub invariant-loop-done : goal.invariant-loop-done
invariant-loop-done l = Going (out_ends l.fn.calls l.line l.fn.self.session) (open_at l.fn.calls l.fn.self.session.timed)
    l.fn.self l.self l.calls l.done
