-- Runs to a breakpoint, where nothing is watched.
use Rattle.std.proofs.Common.{◌≡◌, ℕ, true, List, arith, rules}
use Rattle.std.specs.Prelude.{None, Result, Ok, Err, IfOk}
use Rattle.rv_base.specs.declared.memory.NoMemory.{NoMemory}
use Rattle.rv_board.specs.BoardState.{BoardState}
use Rattle.rv_monitor.specs.State.{SessionState}
use Rattle.rv_recording.proofs.Counting.{same_steps}
use Rattle.rv_recording.specs.Until.{HasRun, break_ends}
use Rattle.rv_recording.specs.declared.until.End.{End}
use Rattle.rv_moves.specs.Runs.{run_ends}
use Rattle.rv_moves.specs.Watches.{are_none, met}
use Rattle.rv_moves.specs.declared.forward.Aim.TheVariants.{Stop}
use Rattle.rv_moves.specs.declared.watch.Watch.{Watch}

pub unmet : (ws : List Watch) (b : BoardState) → are_none ws ≡ true → met ws b ≡ None
unmet ws b e = search (rules, arith)

pub no_watches : (ws : List Watch) → are_none ws ≡ true → (old : SessionState) (r : Result End NoMemory) (most : ℕ)
    (new : SessionState) → IfOk r (HasRun (break_ends old) most old new) → IfOk r (HasRun (run_ends ws Stop 0 old) most old new)
no_watches ws none old (Ok end) most new h = search (rules, arith, same_steps, unmet)
no_watches ws none old (Err why) most new h = tt
