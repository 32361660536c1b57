-- Runs until a condition holds and runs out of calls, step by step.
use Rattle.std.proofs.Common.{rules, ◌≡◌, ◌∙◌, ℕ, suc, ◌+◌, ◌<◌, ◌≤◌, Bool, true, refl, sym, ap, subst, arith, inl, inr}
use Rattle.std.specs.Prelude.{◌&&◌, nat_lt, is_none, is_some, Option, Some, None, Ok}
use Rattle.std.proofs.Math.Numerals.{add-one}
use Rattle.std.proofs.lemmas.Bool.{cases_lt, false≢true}
use Rattle.std.proofs.lemmas.Bool.Decides.{nat_tests}
use Rattle.rv_board.specs.Move.{writes}
use Rattle.rv_board.specs.Support.State.{halted_of}
use Rattle.rv_board.specs.declared.event.Event.TheVariants.{Step}
use Rattle.rv_monitor.specs.State.{IsInTime, SessionState, TimedState, after, with_due}
use Rattle.rv_monitor.specs.Stops.{may_step, steps_between}
use Rattle.rv_monitor.proofs.Steps.{after_none, after_more}
use Rattle.rv_recording.specs.Recording.{RecordingState, with_timed}
use Rattle.rv_recording.specs.Until.{HasRun, comes, until_ends}
use Rattle.rv_recording.specs.Refused.{IsRefusedIn, NoneEnds}
use Rattle.rv_recording.specs.Out.{is_out, open_at, out_ends}
use Rattle.rv_recording.specs.Support.Steps.{CountsOne, TakesOne, end_after, end_before, end_of_step, first_end, next_of}
use Rattle.rv_recording.specs.declared.out.Span.{Span}
use Rattle.rv_recording.specs.declared.until.Condition.{Condition}
use Rattle.rv_recording.specs.declared.until.End.{End}
use Rattle.rv_recording.specs.declared.until.End.TheVariants.{Limit}
use Rattle.rv_recording.proofs.Counting.{all_steps, over_at, takes_more}
use Rattle.rv_recording.proofs.Taken.{refused_at}

-- the recording after n steps
abbrev pub stands : RecordingState → ℕ → RecordingState
stands old n = with_timed old (after old.session.timed n)

-- n steps were taken, after none of which the run was over, and what is counted came to `x`
pub record Going {A : Type 0} (ends : ℕ → Option End) (counts : ℕ → A) (old now : RecordingState) (x : A) (n : ℕ)
    : Type 0 where
  pub in_time : IsInTime old.session.timed
  pub state : now ≡ stands old n
  pub going : NoneEnds ends (suc n)
  pub may : may_step now.session ≡ true
  pub number : x ≡ counts n

pub taken_is : (old now : RecordingState) (n : ℕ) → now ≡ stands old n
    → n ≡ steps_between old.session.timed now.session.timed
unfolding after
taken_is old now n e = omega (arith, ap (λ (r : RecordingState). r.session.timed.taken) e)

-- before the first step
pub before_is : (s : SessionState) → IsInTime s.timed
    → end_before s ≡ end_before (record s { timed = after s.timed 0 })
before_is s h = ap (λ (t : TimedState). end_before (record s { timed = t })) (sym (after_none s.timed h))

may_after : (h : Option ℕ) (r b l : Bool) → first_end h r b l ≡ None → (is_none h && l) ≡ true
may_after h r b l e = search (rules, arith)

more_goes : (ends : ℕ → Option End) (n : ℕ) → NoneEnds ends n → ends n ≡ None → NoneEnds ends (suc n)
more_goes ends n going now i l = search (rules, arith, cases_lt)

-- a run that is over after n steps
over : {ends : ℕ → Option End} {old new : RecordingState} {most n : ℕ} {end : End} → new ≡ stands old n → n ≤ most
    → NoneEnds ends n → ends n ≡ Some end → HasRun ends most old.session new.session end
over {ends} {old} {new} {most} {n} {end} state less going is =
    let steps = over_at ends n most less going (ap is_some is) in search (rules, arith)

module _ {A : Type 0} {ends : ℕ → Option End} {counts : ℕ → A} {old : RecordingState} where
  pub begins : IsInTime old.session.timed → end_before old.session ≡ ends 0 → end_before old.session ≡ None → {x : A}
      → x ≡ counts 0 → Going ends counts old old x 0
  begins in_time is e none = search (rules, arith, after_none)

  pub limit : {now : RecordingState} {x : A} {most n : ℕ} → n ≡ most → Going ends counts old now x n
      → HasRun ends most old.session now.session Limit
  limit all g = search (rules, arith, all_steps)

  pub number_limit : {now : RecordingState} {x : A} {n : ℕ} → Going ends counts old now x n
      → x ≡ counts (steps_between old.session.timed now.session.timed)
  number_limit g = search (rules, arith, taken_is)

  module _ {now new : RecordingState} {x : A} {n : ℕ} (g : Going ends counts old now x n) where
    -- one step more of a recording
    pub one_more : new ≡ with_timed now (after now.session.timed 1) → new ≡ stands old (suc n)
    one_more f = search (rules, arith, after_more, add-one)

    pub took : {end told : Option End} → TakesOne end now new (Ok told)
        → (new ≡ with_timed now (after now.session.timed 1)) × (told ≡ end)
    took (inl t) = t
    took (inr t) = absurd (false≢true (sym t.0 ∙ g.may))

    pub goes_on : {y : A} (reached : Bool) → end_after reached (next_of now.session) ≡ ends (suc n) → y ≡ counts (suc n)
        → TakesOne (end_after reached (next_of now.session)) now new (Ok None) → Going ends counts old new y (n + 1)
    goes_on {y} reached is number t =
        let went = took t in
        subst (Going ends counts old new y) (sym (add-one n)) (record {
          in_time = g.in_time;
          state = one_more went.0;
          going = more_goes ends (suc n) g.going (sym (went.1 ∙ is));
          may = ap (λ (r : RecordingState). may_step r.session) went.0
              ∙ may_after (halted_of (next_of now.session).timed.board) reached _ _ (sym went.1);
          number = number;
        })

    -- a run whose last step ends it
    pub ended : {most : ℕ} {end : Option End} {told : End} → end ≡ ends (suc n) → n < most
        → TakesOne end now new (Ok (Some told)) → HasRun ends most old.session new.session told
    ended is k t = let went = took t in over (one_more went.0) (omega (arith, k)) g.going (sym (went.1 ∙ is))

    pub number_ended : {y : A} → y ≡ counts (suc n) → {end told : Option End} → TakesOne end now new (Ok told)
        → y ≡ counts (steps_between old.session.timed new.session.timed)
    number_ended number t = number ∙ ap counts (taken_is old new (suc n) (one_more (took t).0))

    pub number_refused : new ≡ with_timed now (with_due now.session.timed)
        → x ≡ counts (steps_between old.session.timed new.session.timed)
    unfolding after with_due
    number_refused e = g.number ∙ ap counts same where
      same : n ≡ steps_between old.session.timed new.session.timed
      same = omega (
        arith,
        ap (λ (r : RecordingState). r.session.timed.taken) e,
        ap (λ (r : RecordingState). r.session.timed.taken) g.state,
      )

    pub refused : {most : ℕ} → n < most → new ≡ with_timed now (with_due now.session.timed)
        → writes new.session.timed.board Step ≡ true → IsRefusedIn ends most old.session new.session
    refused {most} k e next =
        refused_at n (ap (λ (r : RecordingState). r.session) due_at) (takes_more ends n most k g.going) next where
          due_at : new ≡ with_timed old (with_due (after old.session.timed n))
          due_at = search (rules, arith)

-- a run that is over before its first step
pub over_before : {ends : ℕ → Option End} {most : ℕ} {before : Option End} {end : End} (old : RecordingState)
    → IsInTime old.session.timed → before ≡ ends 0 → before ≡ Some end → HasRun ends most old.session old.session end
over_before old in_time is e = over (ap (with_timed old) (sym (after_none old.session.timed in_time))) (omega arith)
    (λ i l. absurd (omega (arith, l))) (sym is ∙ e)

-- after a step
pub late : (z r b l : Bool) (h : Option ℕ) → z ≡ true → first_end h r b l ≡ first_end h (z && r) (z && b) l
late z r b l h e = rw e refl

pub above_none : (n : ℕ) → nat_lt 0 (suc n) ≡ true
above_none n = grind (arith, nat_tests)

-- the state after one step more
pub after_suc : (s : TimedState) (n : ℕ) → IsInTime s → after (after s n) 1 ≡ after s (suc n)
after_suc s n h = after_more s n 1 h.rising ∙ ap (after s) (add-one n)

-- ---- until a condition holds

-- why the run ends with the next step
pub end_is : (condition : Condition) {old now : RecordingState} {n : ℕ}
    → Going (until_ends condition old.session) (λ i. tt {0}) old now (tt {0}) n
    → end_of_step condition now.session ≡ until_ends condition old.session (suc n)
unfolding comes
end_is condition g = search (rules, arith, after_suc, late, above_none)

-- ---- out of calls

module _ (first : ℕ) (line : Option Span) {old now : RecordingState} {calls n : ℕ}
    (g : Going (out_ends first line old.session) (open_at first old.session.timed) old now calls n) where
  -- the number of open calls after one step more
  pub open_suc : {left : ℕ} → CountsOne calls left now → left ≡ open_at first old.session.timed (suc n)
  unfolding open_at
  open_suc (inl e) = search (rules, arith)
  open_suc (inr e) = absurd (false≢true (sym e ∙ g.may))

  -- why the run ends with that step
  pub out_is : {left : ℕ} → CountsOne calls left now
      → end_after (is_out line left (after now.session.timed 1).board) (next_of now.session)
      ≡ out_ends first line old.session (suc n)
  unfolding after is_out open_at
  out_is count = search (rules, arith, open_suc, after_suc, late, above_none)
