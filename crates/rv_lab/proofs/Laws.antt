-- Laws of the lab: runs in pieces, and sessions that repeat what was saved.
use Rattle.std.proofs.Common.{rules, arith, ◌≡◌, ◌∙◌, ℕ, ◌-◌, refl, sym, ap, subst, ◌<◌, ◌≤◌}
use Rattle.std.specs.Prelude.{max, Option, Some, None, ◌⊎◌, nat_lt}
use Rattle.std.proofs.lemmas.Bool.Decides.{nat_tests}
use Rattle.std.specs.FinSet as set
use Rattle.rv_program.specs.Program.{Assembly}
use Rattle.rv_board.specs.Support.State.{BoardState}
use Rattle.rv_monitor.specs.State.{IsInTime, SessionState, after, TimedState, begun, new_session, with_due}
use Rattle.rv_monitor.proofs.Sets.{no_member}
use Rattle.rv_monitor.proofs.Steps.{after_more, in_time_after}
use Rattle.rv_monitor.specs.Laws.{IsReached}
use Rattle.rv_monitor.specs.Stops.{Took, stop_of}
use Rattle.rv_recording.specs.Until.{steps_of, step_ends}
use Rattle.rv_recording.specs.Support.Steps.{end_by}
use Rattle.rv_recording.proofs.Counting.{all_steps}
use Rattle.rv_recording.proofs.Taken.{took_ran}
use Rattle.rv_runs.specs.Ends.{goal_after, run_ends}
use Rattle.rv_runs.specs.Plans.{plan_after, resumes_after}
use Rattle.rv_runs.specs.declared.plan.Plan.{Plan}
use Rattle.rv_runs.proofs.Later.{guards_later, stops_after, taken_after}
use Rattle.rv_runs.proofs.Plans.{all_taken, kept, rest_steps, resumes_later}
use Rattle.rv_lab.specs.State.{LabState, timed}
use Rattle.rv_lab.specs.Commands.{InPieces, cut, ended, gone_on, guards_by, piece_steps, stops_of, with_console, with_steps}

-- ---- a run in pieces of any sizes

-- the lab after the n steps of all of a run
abbrev whole_of : Plan → LabState → ℕ → LabState
whole_of p l n = record (with_console (with_steps n l)) {
  guards = guards_by p.goal l n;
  plan = None;
  resumes = resumes_after (stops_of l) p.goal l.recording.session n;
  piece = 0;
}

abbrev whole : Plan → LabState → LabState
whole p l = whole_of p l (steps_of (run_ends (stops_of l) p.goal l.recording.session) p.left)

whole_again : (p r : Plan) (l : LabState) (n : ℕ) → IsInTime (timed l)
    → plan_after (stops_of l) p l.recording.session (piece_steps p (record l { piece = n })) ≡ Some r
    → whole r (gone_on p (record l { piece = n })) ≡ whole p l
whole_again p r l n h e =
    let s = l.recording.session in
    let k = piece_steps p (record l { piece = n }) in
    let now = kept (stops_of l) p s (max n 1) r e in
    let all = rest_steps (stops_of l) p s (max n 1) h now.0 in
    let rest = steps_of (run_ends (stops_after (stops_of l) p.goal s k) (goal_after p.goal s.timed k)
    (record s { timed = after s.timed k })) (p.left - k) in
    let counts = guards_later s k h l.marks l.guards p.goal rest ∙ ap (guards_by p.goal l) all in
    let same = resumes_later s k h (stops_of l) p.goal now.0 rest ∙ ap (resumes_after (stops_of l) p.goal s) all in
    let joined = after_more s.timed k rest h.rising ∙ ap (after s.timed) all in
    subst (λ (q : Plan). whole q (gone_on p (record l { piece = n })) ≡ whole p l) now.2 (rw (counts, same, joined))

at_last : (p : Plan) (l : LabState) (n : ℕ)
    → plan_after (stops_of l) p l.recording.session (piece_steps p (record l { piece = n })) ≡ None
    → record (gone_on p (record l { piece = n })) { piece = 0 } ≡ whole p l
at_last p l n none = search (rules, arith, all_taken)

-- what all calls of a run that isn't over leave, or of none
abbrev all_of : Option Plan → LabState → LabState
all_of None l = record l { piece = 0 }
all_of (Some p) l = whole p l

one_call : (p : Plan) (l : LabState) (n : ℕ) → IsInTime (timed l) → (o : Option Plan)
    → plan_after (stops_of l) p l.recording.session (piece_steps p (record l { piece = n })) ≡ o
    → all_of o (gone_on p (record l { piece = n })) ≡ whole p l
one_call p l n h None none = at_last p l n none
one_call p l n h (Some r) some = whole_again p r l n h some

all_calls : (end l : LabState) → IsInTime (timed l) → InPieces end l → record end { piece = 0 } ≡ all_of l.plan l
all_calls end _ h (ended is) = ap (λ (o : Option Plan). all_of o end) (sym is)
all_calls end _ h (cut l p n is rest) = all_calls end _ (in_time_after (timed l) _ h) rest
    ∙ (one_call p l n h _ refl ∙ ap (λ (o : Option Plan). all_of o l) (sym is))

pub join : (l a b : LabState) → IsInTime (timed l) → InPieces a l → InPieces b l
    → record a { piece = 0 } ≡ record b { piece = 0 }
join l a b h x y = all_calls a l h x ∙ sym (all_calls b l h y)

-- ---- a session that repeats what was saved

module _ (first : BoardState) (s : TimedState) (program : Assembly) (limit : ℕ) (r : IsReached first s)
    (most : s.taken ≤ limit) where
  abbrev opened : SessionState
  opened = new_session first s.inputs program limit

  goes : (i : ℕ) → i < s.taken → step_ends opened i ≡ None
  goes i l = search (rules, arith, nat_tests, taken_after, no_member, (r.running i l))

  pub repeats : (new : SessionState) → Took set.empty s.taken opened new → (s ≡ new.timed) ⊎ (s ≡ with_due new.timed)
  repeats new t =
      let run = took_ran set.empty s.taken opened new t (stop_of set.empty opened new)
      (end_by (stop_of set.empty opened new) (nat_lt new.timed.taken new.limit)) refl refl in
      let now : new.timed ≡ after (begun first s.inputs) s.taken = ap (λ (u : SessionState). u.timed) run.state
      ∙ ap (after (begun first s.inputs)) (all_steps (step_ends opened) s.taken goes) in
      subst (λ (u : TimedState). (s ≡ u) ⊎ (s ≡ with_due u)) (sym now) r.state
