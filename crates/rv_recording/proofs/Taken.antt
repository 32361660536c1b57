-- Calls of a session are runs.
use Rattle.std.proofs.Common.{rules, ◌≡◌, ℕ, ◌+◌, ◌<◌, true, false, refl, ap, subst, arith}
use Rattle.std.specs.Prelude.{nat_lt, is_some, Option, None, Result, OnErr}
use Rattle.rv_base.specs.declared.memory.NoMemory.{NoMemory}
use Rattle.std.proofs.lemmas.Bool.{cases_lt, false≢true}
use Rattle.rv_board.specs.Move.{writes}
use Rattle.rv_board.specs.declared.event.Event.TheVariants.{Step}
use Rattle.rv_monitor.specs.State.{Addresses, SessionState, after, with_due}
use Rattle.rv_monitor.specs.Stops.{Took, WasRefused, steps_between, stop_after, stop_of}
use Rattle.rv_monitor.specs.declared.stop.Stop.{Stop}
use Rattle.rv_recording.specs.Until.{HasRun, end_at, steps_of}
use Rattle.rv_recording.specs.Refused.{IsRefusedIn, NoneEnds}
use Rattle.rv_recording.specs.Support.Steps.{end_by}
use Rattle.rv_recording.specs.declared.until.End.{End}
use Rattle.rv_recording.proofs.Counting.{as_far, takes_more}

-- memory ran out after n steps, fewer than the run takes
pub refused_at : {ends : ℕ → Option End} {most : ℕ} {old new : SessionState} (n : ℕ)
    → new ≡ record old { timed = with_due (after old.timed n) } → n < steps_of ends most
    → writes new.timed.board Step ≡ true → IsRefusedIn ends most old new
unfolding after with_due
refused_at {ends} {most} {old} {new} n state less next =
    let same : n ≡ steps_between old.timed new.timed = omega (arith, ap (λ (s : SessionState). s.timed.taken) state) in
    record {
      within = subst (λ (m : ℕ). m < steps_of ends most) same less;
      state = subst (λ (m : ℕ). new ≡ record old { timed = with_due (after old.timed m) }) same state;
      next_writes = next;
    }

module _ (a : Addresses) (n : ℕ) (s t : SessionState) where
  abbrev ends : ℕ → Option End
  ends = end_at (λ i. false) a s

  taken : (i : ℕ) → (after s.timed i).taken ≡ s.timed.taken + i
  unfolding after
  taken i = refl

  none_at : (i : ℕ) → s.timed.taken + i < s.limit → stop_after a (after s.timed i).board i ≡ None → ends i ≡ None
  unfolding stop_after
  none_at i room e = search (rules, arith, taken)

  module _ (r : Took a n s t) where
    going : NoneEnds ends r.count
    going i l = none_at i (omega (arith, l, r.within)) (r.going i l)

    all_of : is_some (ends r.count) ≡ false → r.count ≡ n
    unfolding stop_after
    all_of e = search (rules, arith, false≢true, taken, cases_lt)

    steps_are : steps_of ends n ≡ r.count
    steps_are = as_far ends r.count n (omega (arith, r.within)) going all_of

    pub took_ran : (stop : Stop) (end : End) → stop ≡ stop_of a s t → end ≡ end_by stop (nat_lt t.timed.taken t.limit)
        → HasRun ends n s t end
    unfolding stop_after
    took_ran stop end e is = search (rules, arith, steps_are, taken)

  refused_ran : WasRefused a n s t → IsRefusedIn ends n s t
  refused_ran w = refused_at w.count w.state (takes_more ends w.count n (omega (arith, w.within))
      (λ i l. none_at i (omega (arith, l, w.within)) (w.going i (omega (arith, l))))) w.next_writes

  pub not_run : {A : Type 0} (r : Result A NoMemory) → WasRefused a n s t → OnErr r (IsRefusedIn ends n s t)
  not_run r w = search (rules, arith, refused_ran)
