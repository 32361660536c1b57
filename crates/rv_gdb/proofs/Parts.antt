-- Parts of a run.
use Rattle.std.proofs.Common.{◌≡◌, ℕ}
use Rattle.std.specs.Prelude.{IfOk, List, Result}
use Rattle.rv_base.specs.declared.memory.NoMemory.{NoMemory}
use Rattle.rv_monitor.specs.State.{SessionState}
use Rattle.rv_recording.specs.Until.{HasRun}
use Rattle.rv_recording.specs.declared.until.End.{End}
use Rattle.rv_moves.specs.Runs.{run_ends}
use Rattle.rv_moves.specs.declared.forward.Aim.{Aim}
use Rattle.rv_moves.specs.declared.forward.Aim.TheVariants.{Stop}
use Rattle.rv_moves.specs.declared.watch.Watch.{Watch}

-- a run to a stop doesn't ask how many calls are open
pub stop_run : (ws : List Watch) (aim : Aim) (calls most : ℕ) (old new : SessionState) (r : Result End NoMemory)
    → aim ≡ Stop → IfOk r (HasRun (run_ends ws Stop 0 old) most old new)
    → IfOk r (HasRun (run_ends ws aim calls old) most old new)
stop_run ws aim calls most old new r e h = rw e h
