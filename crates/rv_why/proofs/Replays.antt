-- Sessions that take the steps of a recording again.
use Rattle.std.proofs.lemmas.Bool.Decides.{nat_tests}
use Rattle.std.proofs.Common.{rules, ◌≡◌, ℕ, ◌<◌, ◌≤◌, arith}
use Rattle.std.specs.Prelude.{min, None}
use Rattle.rv_board.specs.Support.State.{halted_of}
use Rattle.rv_monitor.specs.Laws.{IsReached}
use Rattle.rv_monitor.specs.State.{IsInTime, TimedState, after}
use Rattle.rv_monitor.proofs.Reached.{begun_stands, in_time}
use Rattle.rv_recording.specs.Recording.{RecordingState, first_board, gone_back}
use Rattle.rv_why.specs.Taken.{board_at, first_state}

pub stands_at : (r : RecordingState) (t : TimedState) (n : ℕ) → n ≤ r.session.timed.taken
    → t ≡ (gone_back r (min n r.session.timed.taken)).session.timed → t.board ≡ board_at (first_state r) n
stands_at r t n h e = search (rules, arith, nat_tests)

pub first_in_time : (r : RecordingState) → IsReached (first_board r) r.session.timed → IsInTime (first_state r)
first_in_time r reached =
    in_time (first_board r) (first_state r) (begun_stands (first_board r) r.session.timed.inputs reached.rising)

-- before the first step
module _ (r : RecordingState) (reached : IsReached (first_board r) r.session.timed) {t : TimedState} (e : t ≡ first_state r) where
  pub begins_in_time : IsInTime t
  begins_in_time = rw e (first_in_time r reached)

  pub begins_running : {most : ℕ} → most ≤ r.session.timed.taken → (i : ℕ) → i < most
      → halted_of (after t i).board ≡ None
  begins_running h i l = rw e (reached.running i (omega (arith, h, l)))
