-- Runs, step by step.
use Rattle.std.proofs.Common.{rules, ◌≡◌, ◌∙◌, ℕ, suc, ◌+◌, ◌<◌, ◌==◌, Bool, true, false, ap, arith, inl}
use Rattle.std.specs.Prelude.{◌||◌, is_some, List, Ok, Option, Some, None}
use Rattle.rv_monitor.specs.State.{IsInTime, after}
use Rattle.rv_monitor.specs.Stops.{may_step, steps_between}
use Rattle.rv_monitor.proofs.Steps.{after_none}
use Rattle.rv_recording.specs.Out.{open_at, out_ends}
use Rattle.rv_recording.specs.Recording.{RecordingState, with_timed}
use Rattle.rv_recording.specs.Until.{HasRun}
use Rattle.rv_recording.specs.Support.Steps.{TakesOne, end_after, next_of}
use Rattle.rv_recording.specs.declared.until.End.{End}
use Rattle.rv_recording.proofs.Counting.{all_steps}
use Rattle.rv_recording.proofs.Running.{Going, above_none, ended, goes_on, one_more, over_before, taken_is}
use Rattle.rv_moves.proofs.Ends.{first_none, goes, going}
use Rattle.rv_moves.specs.Runs.{end_here, open_in, reached, run_ends, step_open}
use Rattle.rv_moves.specs.Watches.{met}
use Rattle.rv_moves.specs.declared.forward.Aim.{Aim}
use Rattle.rv_moves.specs.declared.watch.Watch.{Watch}

-- ---- one step

-- the number of open calls after a step inside of a handler
pub opened_inside : (calls left : ℕ) (old new : RecordingState) → (calls == 0) ≡ false
    → left ≡ open_at calls old.session.timed (steps_between old.session.timed new.session.timed)
    → new ≡ with_timed old (after old.session.timed 1) → left ≡ step_open calls old.session.timed
unfolding step_open
opened_inside calls left old new some is state = search (rules, arith, taken_is)

-- a run out of calls of at most one step takes one
pub one_out : (calls : ℕ) (old new : RecordingState) (end : End) → IsInTime old.session.timed
    → may_step old.session ≡ true → HasRun (out_ends calls None old.session) 1 old.session new.session end
    → new ≡ record old { session = new.session } → new ≡ with_timed old (after old.session.timed 1)
one_out calls old new end in_time may ran others = search (rules, arith, after_none, goes, all_steps, first_none)

-- ---- steps

module _ (ws : List Watch) (aim : Aim) (first : ℕ) (old : RecordingState) (in_time : IsInTime old.session.timed) where
  before_is : end_here ws aim first false old.session ≡ run_ends ws aim first old.session 0
  unfolding open_in
  before_is = search (rules, arith, after_none)

  pub begins : end_here ws aim first false old.session ≡ None
      → Going (run_ends ws aim first old.session) (open_in first old.session.timed) old old first 0
  unfolding open_in
  begins e = search (rules, arith, before_is, going, after_none, first_none)

  pub over : {most : ℕ} {end : End} → end_here ws aim first false old.session ≡ Some end
      → HasRun (run_ends ws aim first old.session) most old.session old.session end
  over e = over_before old in_time before_is e

module _ (ws : List Watch) (aim : Aim) (first : ℕ) {old now : RecordingState} {calls n : ℕ}
    (g : Going (run_ends ws aim first old.session) (open_in first old.session.timed) old now calls n) where
  -- a step more
  module _ {new : RecordingState} {left : ℕ} (state : new ≡ with_timed now (after now.session.timed 1))
      (count : left ≡ step_open calls now.session.timed) where
    number_suc : left ≡ open_in first old.session.timed (suc n)
    unfolding open_in
    number_suc = search (rules, arith, going)

    abbrev is_reached : Bool
    is_reached = is_some (met ws (next_of now.session).timed.board) || reached aim left (next_of now.session).timed.board

    end_is : end_after is_reached (next_of now.session) ≡ run_ends ws aim first old.session (suc n)
    end_is = let stands = one_more g state in search (rules, arith, number_suc, above_none)

    takes : {o : Option End} → o ≡ end_here ws aim left true new.session
        → TakesOne (end_after is_reached (next_of now.session)) now new (Ok o)
    takes e = inl (state, e ∙ ap (λ (r : RecordingState). end_here ws aim left true r.session) state)

    pub advances : None ≡ end_here ws aim left true new.session
        → Going (run_ends ws aim first old.session) (open_in first old.session.timed) old new left (n + 1)
    advances e = goes_on g is_reached end_is number_suc (takes e)

    pub ends_run : {most : ℕ} {end : End} → n < most → Some end ≡ end_here ws aim left true new.session
        → HasRun (run_ends ws aim first old.session) most old.session new.session end
    ends_run less e = ended g end_is less (takes e)

    pub number_after : left ≡ open_in first old.session.timed (steps_between old.session.timed new.session.timed)
    number_after = number_suc ∙ ap (open_in first old.session.timed) (taken_is old new (suc n) (one_more g state))
