-- What the calls of a session leave is a recording as well.
use Rattle.std.proofs.Common.{rules, ◌≡◌, ◌∙◌, ℕ, ◌-◌, ◌*◌, ◌≤◌, true, List, [], ◌∷◌, refl, sym, ap, subst, arith}
use Rattle.std.specs.FinSet as set
use Rattle.std.proofs.lemmas.Bool.{and_parts}
use Rattle.std.specs.Prelude.{nat_le, is_none, Option, Some, None, Result, Ok, Err, OnOk, OnErr, OnOk}
use Rattle.rv_base.specs.declared.memory.NoMemory.{NoMemory}
use Rattle.rv_hart.specs.declared.trap.Outcome.{Outcome}
use Rattle.rv_board.specs.Boot.{board_at_reset}
use Rattle.rv_board.specs.Move.{run}
use Rattle.rv_board.specs.Support.State.{BoardState}
use Rattle.rv_timeline.specs.Support.Reading.{HasSteps}
use Rattle.rv_timeline.specs.Timed.{inserted}
use Rattle.rv_timeline.proofs.Whole.{rising}
use Rattle.rv_timeline.specs.declared.input.Input.{Input}
use Rattle.rv_timeline.specs.declared.input.TimedInput.{TimedInput}
use Rattle.rv_program.specs.Program.{Assembly}
use Rattle.rv_commands.specs.declared.command.Command.{Command}
use Rattle.rv_monitor.specs.Commands.{Leaves, LeavesRefused}
use Rattle.rv_monitor.specs.Events.{events_of}
use Rattle.rv_monitor.specs.Laws.{IsReached}
use Rattle.rv_monitor.specs.Resumed.{resumed, resumed_at}
use Rattle.rv_monitor.specs.State.{Addresses, SessionState, TimedState, begun, after, with_due, given, with_break, without_break}
use Rattle.rv_monitor.specs.Stops.{Took, WasRefused, TakesStep}
use Rattle.rv_monitor.specs.declared.stop.Stop.{Stop}
use Rattle.rv_monitor.proofs.Reached.{given_stands, reached_steps, resumed_back, begun_stands, stopped_stands, refused_stands, step_stands, due_stands}
use Rattle.rv_monitor.specs.Opening.{Opens}
use Rattle.rv_recording.specs.Recording.{RecordingState, first_board, gone_back}
use Rattle.rv_recording.specs.Support.Recorded.{IsRecorded}
use Rattle.rv_recording.specs.Support.Kept.{KeptBoard, AreKept, AreWithin}
use Rattle.rv_recording.proofs.Keeping.{kept_with}

none_is : {A : Type 0} (x : Option A) → is_none x ≡ true → x ≡ None
none_is x h = search (rules, arith)

-- ---- the recording before its first step

-- a recording with the states that it keeps
abbrev Stands : SessionState → ℕ → ℕ → List KeptBoard → Type 0
Stands s p q ks = IsRecorded (record { session = s; pages = p; slots = q })
    × AreKept (board_at_reset s.program.bytes (4096 * p)) s.timed.inputs ks

pub opened_is : (program : Assembly) (text : List ℕ) (pages slots : ℕ) (s : SessionState)
    → Opens program text pages slots 9999999999 (Ok s) → HasSteps s.timed.inputs
    → (ks : List KeptBoard) → ks ≡ [] → Stands s pages slots ks
opened_is program text pages slots s opens small ks none = search (rules, arith, begun_stands, rising)

-- ---- a session that takes recorded steps again

pub replayed : (r : RecordingState) (old new : SessionState) (board : BoardState) (k n m : ℕ) → m ≡ n - k
    → IsReached (first_board r) r.session.timed → old.timed.inputs ≡ r.session.timed.inputs
    → board ≡ run (first_board r) (events_of r.session.timed.inputs 0 k) → k ≤ n → n ≤ r.session.timed.taken
    → n ≤ old.limit → Took set.empty m (resumed_at old board k) new → new.timed ≡ (gone_back r n).session.timed
replayed r old new board k n m is reached same run_is before below within t =
    resumed_back (first_board r) r.session.timed reached board k n new.timed run_is before below t.count
    (omega (arith, t.within, is)) (λ l. t.least (omega (arith, l, is)))
    (ap (λ u. u.timed) t.state ∙ ap (λ (xs : List TimedInput). after (resumed board xs k) t.count) same)

-- ---- what calls leave

steps_inserted : (xs : List TimedInput) (x : TimedInput) → HasSteps xs → nat_le x.step 9999999999 ≡ true
    → HasSteps (inserted xs x)
unfolding inserted
steps_inserted [] x h k = search (rules, arith)
steps_inserted (y ∷ ys) x h k = search (rules, arith, and_parts, steps_inserted ys x)

module _ (s new : SessionState) (p q : ℕ) (ks : List KeptBoard) (h : Stands s p q ks) where
  abbrev first : BoardState
  first = board_at_reset s.program.bytes (4096 * p)

  abbrev after_call : RecordingState
  after_call = record { session = new; pages = p; slots = q }

  stands : new.program ≡ s.program → new.limit ≡ s.limit → IsReached first new.timed
      → HasSteps new.timed.inputs → AreKept first new.timed.inputs ks → Stands new p q ks
  stands same limit r small kept = search (rules, arith)

  -- nothing but the board with its inputs changed
  moved : (t : TimedState) → new ≡ record s { timed = t } → IsReached first t → t.inputs ≡ s.timed.inputs
      → Stands new p q ks
  moved t e r same = search (rules, arith, stands)

  same_timed : new.program ≡ s.program → new.limit ≡ s.limit → new.timed ≡ s.timed → Stands new p q ks
  same_timed same limit e = search (rules, arith, stands)

  unchanged : new ≡ s → Stands new p q ks
  unchanged e = subst (λ (u : SessionState). Stands u p q ks) (sym e) h

  took : (a : Addresses) (n : ℕ) → Took a n s new → Stands new p q ks
  unfolding after
  took a n t = moved _ t.state (stopped_stands a first s.timed h.0.reached t.count t.going) refl

  was_refused : (a : Addresses) (n : ℕ) → WasRefused a n s new → Stands new p q ks
  unfolding after with_due
  was_refused a n w = moved _ w.state
      (refused_stands a first s.timed h.0.reached w.count (λ i l. w.going i (omega arith))) refl

  pub called : (a : Addresses) (n : ℕ) (r : Result Stop NoMemory) → OnOk r (Took a n s new)
      → OnErr r (WasRefused a n s new) → Stands new p q ks
  called a n r ok err = search (rules, arith, took, was_refused)

  pub one_step : (r : Result (Option Outcome) NoMemory) → TakesStep s new r → Stands new p q ks
  unfolding after with_due
  one_step (Ok (Some outcome)) t = moved _ t.1 (step_stands _ s.timed h.0.reached (none_is _ (and_parts _ _ t.0).0)) refl
  one_step (Ok None) t = unchanged t.1
  one_step (Err refusal) t = moved _ t.1 (due_stands _ s.timed h.0.reached) refl

  -- ---- commands

  pub left_refused : (c : Option Command) → LeavesRefused c s new → Stands new p q ks
  left_refused c e = search (rules, arith, unchanged, was_refused)

  pub commanded : {A : Type 0} (c : Option Command) (r : Result A NoMemory) → OnOk r (Leaves c s new)
      → OnErr r (LeavesRefused c s new) → Stands new p q ks
  commanded c r ok err = search (rules, arith, unchanged, took, same_timed, left_refused)

  -- ---- breakpoints

  pub broken : (r : Result Unit NoMemory) (addr : ℕ) → OnOk r (new ≡ with_break s addr) → OnErr r (new ≡ s)
      → Stands new p q ks
  broken r addr e err = search (rules, arith, same_timed, unchanged)

  pub cleared : (addr : ℕ) → new ≡ without_break s addr → Stands new p q ks
  cleared addr e = search (rules, arith, same_timed)

  -- ---- inputs

  pub gave : (r : Result Unit NoMemory) (input : Input) → s.timed.taken ≤ s.limit → AreWithin s.timed.taken ks
      → OnOk r (new ≡ record s { timed = given s.timed input }) → OnErr r (new ≡ s) → Stands new p q ks
  unfolding with_due
  gave r input most within e err = search (rules, arith, stands, given_stands, steps_inserted, kept_with, rising, unchanged)

  -- ---- going back

  module _ (board : BoardState) (k n : ℕ) (run_is : board ≡ run first (events_of s.timed.inputs 0 k))
      (before : k ≤ n) (below : n ≤ s.timed.taken) (within : s.timed.taken ≤ s.limit) where
    module _ (t : Took set.empty (n - k) (resumed_at s board k) new) where
      went : new ≡ record s { timed = after (begun first s.timed.inputs) n }
      went =
          let back_is = replayed (record { session = s; pages = p; slots = q }) s new board k n (n - k) refl h.0.reached refl
          run_is before below (omega (arith, below, within)) t in cc (back_is, t.state)

      pub back_stands : Stands new p q ks
      unfolding after
      back_stands = moved _ went (reached_steps first s.timed.inputs n _ h.0.reached.rising refl
          (λ j l. h.0.reached.running j (omega arith))) refl

      pub went_back : after_call ≡ gone_back (record { session = s; pages = p; slots = q }) n
      went_back = search (rules, arith, went)

    pub back_any : (r : Result Stop NoMemory) → OnOk r (Took set.empty (n - k) (resumed_at s board k) new)
        → OnErr r (new ≡ s) → Stands new p q ks
    back_any r ok err = search (rules, arith, back_stands, unchanged)
