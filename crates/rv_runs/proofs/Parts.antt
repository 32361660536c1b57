-- Runs by their parts: what is left of a run makes it whole.
use Rattle.std.proofs.lemmas.Bool.Decides.{nat_tests}
use Rattle.std.proofs.lemmas.Bool.{cases_lt}
use Rattle.std.proofs.Common.{◌≡◌, ◌∙◌, ℕ, ◌+◌, ◌-◌, ◌<◌, ◌≤◌, false, refl, sym, ap, arith, inl, inr}
use Rattle.std.specs.Prelude.{is_some, unwrap_or, IsErr, OnErr, Option, Some, None, Result, Ok, Err}
use Rattle.rv_base.specs.declared.memory.NoMemory.{NoMemory}
use Rattle.rv_monitor.specs.State.{IsInTime, SessionState, TimedState, after, with_due}
use Rattle.rv_monitor.specs.Stops.{steps_between}
use Rattle.rv_monitor.proofs.Steps.{after_more, after_none, in_time_after}
use Rattle.rv_recording.specs.Recording.{RecordingState}
use Rattle.rv_recording.specs.Refused.{IsRefusedIn, NoneEnds}
use Rattle.rv_recording.specs.Until.{steps_of}
use Rattle.rv_recording.specs.declared.until.End.{End}
use Rattle.rv_recording.specs.declared.until.End.TheVariants.{Limit}
use Rattle.rv_recording.proofs.Counting.{as_far, over_or_all, steps_within, takes_more}
use Rattle.rv_runs.specs.Support.Plain.{Ran}
use Rattle.rv_runs.proofs.Later.{taken_after}

pub taken_due : (s : TimedState) → (with_due s).taken ≡ s.taken
unfolding with_due
taken_due s = refl

pub on_err : {A E : Type 0} (r : Result A E) (P : Type 0) → P → OnErr r P
on_err r P p = grind (arith, nat_tests)

-- ---- how many steps a run takes

-- a run that isn't over after the steps that it takes takes all that it may
pub all_of : (ends : ℕ → Option End) (m : ℕ) → is_some (ends (steps_of ends m)) ≡ false → steps_of ends m ≡ m
all_of ends m going = grind (arith, steps_within, over_or_all)

pub between : (s : TimedState) (n : ℕ) → n ≡ steps_between s (after s n)
between s n = omega (arith, taken_after s n)

-- ---- the whole run

-- what is left of a run after some steps: from a session on it is over where the whole run is, and leads to the same
pub record Rests {A : Type 0} (ends : A → SessionState → ℕ → Option End) (later : A → SessionState → ℕ → A) (a0 : A)
    (r0 : RecordingState) (most : ℕ) (a : A) (r : RecordingState) (left : ℕ) : Type 0 where
  pub taken : ℕ
  pub in_time : IsInTime r0.session.timed
  pub state : r ≡ record r0 { session = record r0.session { timed = after r0.session.timed taken } }
  pub none : NoneEnds (ends a0 r0.session) taken
  pub rest : (i : ℕ) → ends a r.session i ≡ ends a0 r0.session (taken + i)
  pub aims : (i : ℕ) → later a r.session i ≡ later a0 r0.session (taken + i)
  pub all : taken + left ≡ most

-- a part of it: k steps, after which it is over for a reason, or goes on
pub record Part {A : Type 0} (ends : A → SessionState → ℕ → Option End) (later : A → SessionState → ℕ → A) (a : A)
    (r : RecordingState) (left k : ℕ) (b : A) (q : RecordingState) (o : Option End) : Type 0 where
  pub state : q ≡ record r { session = record r.session { timed = after r.session.timed k } }
  pub aim : b ≡ later a r.session k
  pub within : k ≤ left
  pub none : NoneEnds (ends a r.session) k
  pub over : (said : End) → o ≡ Some said
      → (said ≡ unwrap_or (ends a r.session k) Limit) × (is_some (ends a r.session k) ≡ false → k ≡ left)
  pub on : o ≡ None → (ends a r.session k ≡ None) × (0 < k)
  pub rest : is_some (ends a r.session k) ≡ false → (i : ℕ)
      → ends (later a r.session k) (record r.session { timed = after r.session.timed k }) i ≡ ends a r.session (k + i)
  pub aims : (i : ℕ)
      → later (later a r.session k) (record r.session { timed = after r.session.timed k }) i ≡ later a r.session (k + i)

pub begins : (A : Type 0) (ends : A → SessionState → ℕ → Option End) (later : A → SessionState → ℕ → A) (a : A)
    (r : RecordingState) (most : ℕ) (s : SessionState) → s ≡ r.session → IsInTime s.timed
    → Rests ends later a r most a r most
begins A ends later a r most s e h = record {
  taken = 0;
  in_time = rw (← e) h;
  state = grind (arith, after_none);
  none = λ i l. absurd (omega (arith, l));
  rest = λ i. let same : i ≡ 0 + i = omega arith in ap (ends a r.session) same;
  aims = λ i. let same : i ≡ 0 + i = omega arith in ap (later a r.session) same;
  all = omega arith;
}

module _ {A : Type 0} {ends : A → SessionState → ℕ → Option End} {later : A → SessionState → ℕ → A} {a0 : A}
    {r0 : RecordingState} {most : ℕ} {a : A} {r : RecordingState} {left : ℕ} (before : Rests ends later a0 r0 most a r left) where
  pub in_time : IsInTime r.session.timed
  in_time = rw before.state (in_time_after r0.session.timed before.taken before.in_time)

  -- it isn't over in a part that isn't
  none_by : (k : ℕ) → NoneEnds (ends a r.session) k → NoneEnds (ends a0 r0.session) (before.taken + k)
  none_by k none i l = elim (cases_lt i before.taken) [
    | inl less ↦ before.none i less
    | inr more ↦
        let same : before.taken + (i - before.taken) ≡ i = omega (arith, more) in
        ap (ends a0 r0.session) (sym same)
        ∙ (sym (before.rest (i - before.taken)) ∙ none (i - before.taken) (omega (arith, l, more)))
  ]

  later_is : (j : ℕ) → after r.session.timed j ≡ after r0.session.timed (before.taken + j)
  later_is j = ap (λ (x : RecordingState). after x.session.timed j) before.state
      ∙ after_more r0.session.timed before.taken j before.in_time.rising

  -- memory ran out in a part
  pub short : {plain : ℕ → Option End} {m : ℕ} {b : A} {q : RecordingState} (result : Result End NoMemory) → IsErr result
      → b ≡ later a r.session (steps_between r.session.timed q.session.timed) → q ≡ record r { session = q.session }
      → IsRefusedIn plain m r.session q.session → NoneEnds (ends a r.session) (steps_of plain m) → steps_of plain m ≤ left
      → Ran ends later most a0 b r0 q result
  short {plain} {m} {b} {q} (Err e) is aim others out none within =
      let j = steps_between r.session.timed q.session.timed in
      let there : q.session ≡ record r0.session { timed = with_due (after r0.session.timed (before.taken + j)) } =
      out.state ∙ rw (later_is j, before.state) refl in
      let took : q.session.timed.taken ≡ r0.session.timed.taken + (before.taken + j) =
      ap (λ (u : SessionState). u.timed.taken) there ∙ (taken_due _ ∙ taken_after _ _) in
      let far : before.taken + j ≡ steps_between r0.session.timed q.session.timed = omega (arith, took) in
      record {
        ok = tt;
        err = record {
          within = rw (← far) (takes_more (ends a0 r0.session) (before.taken + j) most (omega (arith, out.within, within, before.all))
              (λ i l. none_by (steps_of plain m) none i (omega (arith, l, out.within))));
          state = rw (← far) there;
          next_writes = out.next_writes;
        };
        aim = rw (← far) (aim ∙ before.aims j);
        others = others ∙ ap (λ (x : RecordingState). record x { session = q.session }) before.state;
      }
  short (Ok end) is aim others out none within = cc

  module _ {k : ℕ} {b : A} {q : RecordingState} {o : Option End} (part : Part ends later a r left k b q o) where
    state : q ≡ record r0 { session = record r0.session { timed = after r0.session.timed (before.taken + k) } }
    state = part.state ∙ rw (before.state, after_more r0.session.timed before.taken k before.in_time.rising) refl

    -- the run is over after it
    pub over : (said : End) → o ≡ Some said → Ran ends later most a0 b r0 q (Ok said)
    over said is =
        let told = part.over said is in
        let same : steps_of (ends a0 r0.session) most ≡ before.taken + k =
        as_far (ends a0 r0.session) (before.taken + k) most (omega (arith, part.within, before.all)) (none_by k part.none)
        (λ going. let last = told.1 (rw (before.rest k) going) in omega (arith, last, before.all)) in
        record {
          ok = record {
            state = ap (λ (x : RecordingState). x.session) state ∙ rw same refl;
            ended = told.0 ∙ rw (same, before.rest k) refl;
          };
          err = tt;
          aim = part.aim ∙ (before.aims k ∙ rw (state, ← between r0.session.timed (before.taken + k)) refl);
          others = state ∙ rw state refl;
        }

    -- it goes on
    pub fewer : o ≡ None → (less : ℕ) → less ≡ left - k → less < left
    fewer is less e = omega (arith, part.on is, part.within, e)

    pub goes_on : o ≡ None → (less : ℕ) → less ≡ left - k → Rests ends later a0 r0 most b q less
    goes_on is less e =
        let more : (i : ℕ) → before.taken + (k + i) ≡ before.taken + k + i = λ i. omega arith in
        record {
          taken = before.taken + k;
          in_time = before.in_time;
          state = state;
          none = none_by k part.none;
          rest = λ i. rw (part.aim, part.state) (part.rest (ap is_some (part.on is).0) i)
              ∙ (before.rest (k + i) ∙ ap (ends a0 r0.session) (more i));
          aims = λ i. rw (part.aim, part.state) (part.aims i) ∙ (before.aims (k + i) ∙ ap (later a0 r0.session) (more i));
          all = omega (arith, e, part.within, before.all);
        }
