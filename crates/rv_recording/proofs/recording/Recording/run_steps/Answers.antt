use Rattle.rv_recording.proofs.Taken.{took_ran}
use Rattle.rv_recording.proofs.recording.Recording.run_steps.Goals as goal

pub returns-clause-ok : goal.returns-clause-ok
returns-clause-ok c =
    took_ran _ _ _ _ c.in_ok-stop.ensures.took _ _ c.in_ok-stop.ensures.stop c.end_by.ensures
