-- Runs up to the first change of what is watched, step by step.
use Rattle.std.proofs.Common.{rules, ◌≡◌, ◌∙◌, ℕ, ◌-◌, ◌<◌, ◌≤◌, Bool, true, false, List, [], ◌∷◌, length, refl, sym, ap, arith}
use Rattle.std.proofs.lemmas.Bool.Decides.{nat_tests}
use Rattle.std.specs.List.{list_any}
use Rattle.std.specs.Prelude.{min, pred, is_some, option_and_then, unwrap_or, IfOk, OnErr, Option, Some, None, Result, Ok, Err, IsErr}
use Rattle.rv_base.specs.declared.memory.NoMemory.{NoMemory}
use Rattle.rv_monitor.specs.State.{IsInTime, SessionState, after}
use Rattle.rv_monitor.proofs.Steps.{after_none}
use Rattle.rv_recording.specs.Recording.{RecordingState}
use Rattle.rv_recording.specs.Refused.{IsRefusedIn, NoneEnds}
use Rattle.rv_recording.specs.Until.{HasRun, steps_of}
use Rattle.rv_recording.specs.Support.Steps.{first_end}
use Rattle.rv_recording.specs.declared.until.End.{End}
use Rattle.rv_recording.specs.declared.until.End.TheVariants.{Limit}
use Rattle.rv_recording.specs.declared.until.Watched.{Watched}
use Rattle.rv_recording.proofs.Counting.{none_before, steps_within}
use Rattle.rv_runs.specs.Ends.{Stops, guarded_ends, heeds, run_ends}
use Rattle.rv_runs.specs.Guards.{end_here}
use Rattle.rv_runs.specs.Support.Plain.{Aim, Ran, aim_after, past_ends, stop_here, watch_ends, watched_ends}
use Rattle.rv_runs.specs.Watches.{differs, watching}
use Rattle.rv_runs.specs.declared.guard.Guard.{Guard}
use Rattle.rv_runs.specs.declared.goal.Goal.{Goal}
use Rattle.rv_runs.specs.declared.goal.Goal.TheVariants as goal
use Rattle.rv_runs.proofs.Later.{no_change, watched_later}
use Rattle.rv_runs.proofs.Parts.{Part, Rests, all_of, between, in_time, short}
use Rattle.rv_runs.proofs.Passing.{aims_later}

-- ---- a run that isn't over ends for no limit

abbrev pub is_limit : Option End → Bool
is_limit (Some Limit) = true
is_limit _ = false

never_by : (h : Option ℕ) (r b l : Bool) → is_limit (first_end h r b l) ≡ false
never_by h r b l = grind arith

never_past : (gs : List Guard) (t : SessionState) (h : Option ℕ) (r b l : Bool)
    → is_limit (option_and_then (end_here gs t) (first_end h r b l)) ≡ false
never_past gs t h r b l = grind arith

pub never : (ms : List ℕ) (gs : List Guard) (g : Goal) (s : SessionState) (n : ℕ)
    → is_limit (guarded_ends ms gs g s n) ≡ false
never ms gs g s n = grind (arith, nat_tests, never_by, never_past)

-- ---- a step

-- why a run is over after it, by why it would be if nothing were watched
module _ (full plain : ℕ → Option End) (m k : ℕ) (c : Bool) (at : full k ≡ watching c (plain k)) (end : End)
    (ended : end ≡ unwrap_or (plain k) Limit) (all : is_some (plain k) ≡ false → k ≡ min m 1) where
  -- where it isn't over, the step was the last that may be taken
  over_by : (said : End) → stop_here c end m ≡ Some said
      → (said ≡ unwrap_or (full k) Limit) × (is_some (full k) ≡ false → k ≡ m)
  over_by said is = grind (arith, nat_tests)

  goes_by : stop_here c end m ≡ None → is_limit (plain k) ≡ false → (full k ≡ None) × (k ≡ 1)
  goes_by is never = grind (arith, nat_tests)

module _ (ws : List Watched) (ms : List ℕ) (a : Aim) (s : SessionState) (h : IsInTime s.timed) where
  abbrev plain : ℕ → Option End
  plain = past_ends ms a s

  abbrev full : ℕ → Option End
  full = watch_ends ws ms a s

  full_at : (n : ℕ) → n ≤ 1 → full n ≡ watching (list_any (differs s.timed.board (after s.timed n).board) ws) (plain n)
  full_at n l =
      let none : pred n ≡ 0 = omega (arith, l) in
      rw (none, after_none s.timed h) refl

  -- nothing changes before the first step
  open_before : (n : ℕ) → n ≤ 1 → NoneEnds plain n → NoneEnds full n
  open_before n l none i less =
      let first : i ≡ 0 = omega (arith, l, less) in
      full_at i (omega (arith, first)) ∙ rw (none i less, first, after_none s.timed h, no_change s.timed.board ws) refl

-- ---- a part of the whole run

module _ (ws : List Watched) (ms : List ℕ) {one left : ℕ} (is_one : one ≡ min left 1) where
  -- memory ran out in it
  pub watch_short : {a0 a b : Aim} {r0 r q : RecordingState} {most : ℕ}
      → Rests (watch_ends ws ms) (aim_after ms) a0 r0 most a r left → {e : NoMemory} (result : Result End NoMemory) → IsErr result
      → Ran (past_ends ms) (aim_after ms) one a b r q (Err e) → Ran (watch_ends ws ms) (aim_after ms) most a0 b r0 q result
  watch_short {a = a} {r = r} before result is part =
      let within = steps_within (past_ends ms a r.session) one in
      short before result is part.aim part.others part.err
      (open_before ws ms a r.session (in_time before) (steps_of (past_ends ms a r.session) one) (omega (arith, is_one, within))
      (none_before (past_ends ms a r.session) one)) (omega (arith, is_one, within))

  pub watch_part : {a b : Aim} {r q : RecordingState} → IsInTime r.session.timed → {end : End}
      → Ran (past_ends ms) (aim_after ms) one a b r q (Ok end) → {c : Bool}
      → c ≡ list_any (differs r.session.timed.board q.session.timed.board) ws → {o : Option End} → o ≡ stop_here c end left
      → Part (watch_ends ws ms) (aim_after ms) a r left (steps_of (past_ends ms a r.session) one) b q o
  watch_part {a} {b} {r} {q} begun {end} part {c} changed {o} is =
      let plain = past_ends ms a r.session in
      let full = watch_ends ws ms a r.session in
      let k = steps_of plain one in
      let within : k ≤ min left 1 = omega (arith, is_one, steps_within plain one) in
      let all : is_some (plain k) ≡ false → k ≡ min left 1 = λ going. all_of plain one going ∙ is_one in
      let there : q.session ≡ record r.session { timed = after r.session.timed k } = part.ok.state in
      let aim : b ≡ aim_after ms a r.session k = part.aim ∙ rw (there, ← between r.session.timed k) refl in
      let at : full k ≡ watching c (plain k) =
      full_at ws ms a r.session begun k (omega (arith, within)) ∙ rw (changed, there) refl in
      record {
        state = part.others ∙ ap (λ (u : SessionState). record r { session = u }) there;
        aim = aim;
        within = omega (arith, within);
        none = open_before ws ms a r.session begun k (omega (arith, within)) (none_before plain one);
        over = λ said some. over_by full plain left k c at end part.ok.ended all said (sym is ∙ some);
        on = λ goes.
            let on = goes_by full plain left k c at end part.ok.ended all (sym is ∙ goes) (never ms a.guards a.goal r.session k) in
            (on.0, omega (arith, on.1));
        rest = λ going i. watched_later r.session k begun (record { guards = a.guards; watches = ws; marks = ms }) a.goal going i;
        aims = λ i. aims_later ms a r.session k begun i;
      }

-- it goes on after one step
pub one_step : (plain : ℕ → Option End) (one left less : ℕ) → one ≡ min left 1 → less ≡ left - 1 → 0 < steps_of plain one
    → less ≡ left - steps_of plain one
one_step plain one left less is e moved = omega (arith, is, e, moved, steps_within plain one)

-- ---- a run where nothing is watched, one of steps that are counted, and any other

pub unwatched : (ms : List ℕ) (gs : List Guard) (ws : List Watched) (g : Goal) (s : SessionState) → length ws ≡ 0
    → guarded_ends ms gs g s ≡ run_ends (record { guards = gs; watches = ws; marks = ms }) g s
unwatched ms gs [] goal.Count s e = refl
unwatched ms gs [] _ s e = refl
unwatched ms gs (w ∷ ws) g s e = absurd (omega (arith, e))

pub unheeded : (st : Stops) (g : Goal) (s : SessionState) → heeds g ≡ false
    → guarded_ends st.marks st.guards g s ≡ run_ends st g s
unheeded st g s e = search rules

pub heeded : (st : Stops) (g : Goal) (s : SessionState) → heeds g ≡ true → watched_ends st g s ≡ run_ends st g s
heeded st g s e = search rules

module _ {E : Type 0} (r : Result End E) (e f : ℕ → Option End) (n : ℕ) (s t : SessionState) (same : e ≡ f) where
  pub ran_as : IfOk r (HasRun e n s t) → IfOk r (HasRun f n s t)
  ran_as h = rw (← same) h

  pub refused_as : OnErr r (IsRefusedIn e n s t) → OnErr r (IsRefusedIn f n s t)
  refused_as h = rw (← same) h
