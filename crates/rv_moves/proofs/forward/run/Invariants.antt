use Rattle.rv_recording.proofs.Running.{Going}
use Rattle.rv_moves.specs.Runs.{open_in, run_ends}
use Rattle.rv_moves.proofs.forward.run.Given as goal

abbrev pub invariant-loop-done : goal.invariant-loop-done
invariant-loop-done l =
    Going (run_ends l.watches l.aim l.fn.calls l.fn.recording.session) (open_in l.fn.calls l.fn.recording.session.timed)
    l.fn.recording l.recording l.calls l.done
