-- Runs, traces and inputs by hand: what they leave, also where memory stopped them short.
use Rattle.std.proofs.Common.{rules, ◌≡◌, ◌∙◌, ℕ, zero, suc, ◌-◌, ◌<◌, Bool, false, List, [], ◌∷◌, refl, sym, ap, arith, ◌+◌, ◌≤◌, true, length, take, drop, get_or, subst, ◌++◌}
use Rattle.std.specs.Prelude.{◌&&◌, is_none, is_some, max, min, if◌then◌else◌, unwrap_or, Option, None, Result, OnOk, fold, Some, Ok, Err, OnErr}
use Rattle.std.proofs.lemmas.List.{take_all}
use Rattle.rv_base.specs.declared.memory.NoMemory.{NoMemory}
use Rattle.rv_timeline.specs.declared.input.Input.{Input}
use Rattle.rv_timeline.specs.Timed.{never_falls}
use Rattle.rv_monitor.specs.State.{IsInTime, SessionState, after, TimedState, given, with_due}
use Rattle.rv_monitor.specs.Stops.{may_step, steps_between, TakesStep}
use Rattle.rv_monitor.proofs.Sets.{no_member}
use Rattle.rv_monitor.proofs.Steps.{after_more, after_none, after_due, after_rises}
use Rattle.rv_recording.specs.Recording.{RecordingState, with_timed}
use Rattle.rv_recording.specs.Until.{HasRun, step_ends, steps_of}
use Rattle.rv_recording.specs.declared.until.End.{End}
use Rattle.rv_recording.specs.declared.until.End.TheVariants.{Limit}
use Rattle.rv_recording.specs.Refused.{IsRefusedIn}
use Rattle.rv_recording.specs.declared.until.Watched.{Watched}
use Rattle.rv_answers.specs.declared.moves.Step.{Step}
use Rattle.rv_runs.specs.Plans.{plan_after, rest_of, resumes_after, resumes_of, tells_last, is_traced}
use Rattle.rv_runs.specs.Ends.{goal_after, run_ends, Stops}
use Rattle.rv_runs.proofs.Later.{taken_after}
use Rattle.rv_runs.proofs.Plans.{plan_is, resumes_is}
use Rattle.rv_runs.specs.declared.plan.Plan.{Plan}
use Rattle.rv_runs.specs.declared.goal.Goal.{Goal}
use Rattle.rv_runs.specs.declared.goal.Goal.TheVariants as goal
use Rattle.rv_runs.proofs.Parts.{on_err}
use Rattle.rv_runs.proofs.Passing.{traced_guards}
use Rattle.rv_runs.specs.declared.guard.Guard.{Guard}
use Rattle.rv_lab.specs.State.{LabState, sent, timed}
use Rattle.rv_lab.specs.Commands.{gone_on, guards_by, stepped, stops_of, with_inputs, with_piece, with_steps, begun, piece_most, with_console, with_session}
use Rattle.rv_lab.specs.Support.Short.{Traced, end_now, ran_to, stepped_by, Gives, GoesOnWith, IsOnWay, StopsIn, told_steps}
use Rattle.rv_lab.specs.Runs.{Leaves}
use Rattle.rv_lab.specs.Refusals.{Leads, StopsShort, by_hand, due, nowhere, steps}
use Rattle.rv_lab.specs.declared.order.Order.TheVariants as orders

-- ---- a call of a run

-- what the steps of a call leave
module _ (p : Plan) (old : LabState) where
  abbrev s : SessionState
  s = old.recording.session

  has_taken : (n : ℕ) (t : SessionState) (end : End) (g : Goal) (done : ℕ)
      → t ≡ record s { timed = after s.timed n } → end ≡ unwrap_or (run_ends (stops_of old) p.goal s n) Limit
      → g ≡ goal_after p.goal s.timed (steps_between s.timed t.timed) → done ≡ t.timed.taken - s.timed.taken
      → record (ran_to p.goal old t) { plan = rest_of p g end done; resumes = resumes_of g end }
      ≡ record (with_steps n old) {
        guards = guards_by p.goal old n;
        plan = plan_after (stops_of old) p s n;
        resumes = resumes_after (stops_of old) p.goal s n;
      }
  has_taken n t end g done state ended goal_is done_is =
      let now = ap (λ (u : SessionState). u.timed.taken) state in
      let between : steps_between s.timed t.timed ≡ n = omega (arith, now, taken_after s.timed n) in
      let all : done ≡ n = done_is ∙ between in
      rw (goal_is, between, all, ended, state, plan_is (stops_of old) p s n, resumes_is (stops_of old) p.goal s n)

pub took_piece : (p : Plan) (g : Goal) (end : End) (old at_first mid new : LabState) (most done : ℕ)
    → at_first ≡ record old { plan = None; resumes = goal.Break }
    → HasRun (run_ends (stops_of at_first) p.goal at_first.recording.session) most at_first.recording.session mid.recording.session end
    → g ≡ goal_after p.goal (timed at_first) (steps_between (timed at_first) (timed mid))
    → mid ≡ ran_to p.goal at_first mid.recording.session → most ≡ min p.left (max old.piece 1)
    → done ≡ (timed mid).taken - (timed old).taken → new ≡ record mid { plan = rest_of p g end done; resumes = resumes_of g end }
    → new ≡ with_piece p old
took_piece p g end old at_first mid new most done is run goal_is others most_is done_is e =
    search (rules, arith, has_taken)

-- the console
pub told_call : (p : Plan) (waits : Bool) (old mid new : LabState) → mid ≡ with_piece p old → waits ≡ tells_last p
    → new ≡ record mid { told = if waits && is_some mid.plan then mid.told else sent mid } → new ≡ gone_on p old
told_call p waits old mid new is w e = search (rules, arith)

-- ---- single steps, as a run takes them

-- a recording that may take no step stays as it is
still : (k : ℕ) (r : RecordingState) → may_step r.session ≡ false → stepped_by k r ≡ r
still zero r h = refl
still (suc k) r h = search (rules, arith, (still k r h))

-- n steps are a step and the others
one_and_more : (n : ℕ) (r : RecordingState) → 0 < n → stepped_by n r ≡ stepped_by (n - 1) (stepped r)
one_and_more n r h = search (rules, arith)

pub traced_none : (n : ℕ) (l : LabState) → n ≡ 0 → Traced n l l
traced_none n l e = search (rules, arith)

pub traced_last : (n : ℕ) (old new : LabState) → 0 < n
    → new ≡ record old { recording = stepped old.recording } → may_step new.recording.session ≡ false → Traced n old new
traced_last n old new h e over = search (rules, arith, one_and_more, still)

pub traced_all : {A : Type 0} (r : Result A NoMemory) (n : ℕ) (old mid new : LabState) → 0 < n
    → mid ≡ record old { recording = stepped old.recording } → OnOk r (Traced (n - 1) mid new)
    → OnOk r (Traced n old new)
traced_all r n old mid new h e t = search (rules, arith, one_and_more)

-- steps past any breakpoint are over where none may be taken
goes_while : (s : SessionState) (n : ℕ) → is_none (step_ends s n) ≡ may_step (record s { timed = after s.timed n })
goes_while s n = search (rules, arith, no_member)

-- n steps and one more
one_later : (n : ℕ) (r : RecordingState) → stepped_by (suc n) r ≡ stepped (stepped_by n r)
one_later zero r = refl
one_later (suc n) r = one_later n (stepped r)

next_by : (r : RecordingState) (k : ℕ) (o : Option End) (b : Bool) → IsInTime r.session.timed → is_none o ≡ b
    → (if b then with_timed r (after (after r.session.timed k) 1) else with_timed r (after r.session.timed k))
    ≡ with_timed r (after r.session.timed (if is_some o then k else suc k))
next_by r k o b h e = search (rules, arith, after_more)

-- they are those of a run of steps past any breakpoint
all_stepped : (n : ℕ) (r : RecordingState) → IsInTime r.session.timed
    → stepped_by n r ≡ with_timed r (after r.session.timed (steps_of (step_ends r.session) n))
unfolding steps_of
all_stepped zero r h = ap (with_timed r) (sym (after_none r.session.timed h))
all_stepped (suc n) r h =
    let k = steps_of (step_ends r.session) n in
    one_later n r ∙ (ap stepped (all_stepped n r h)
    ∙ next_by r k (step_ends r.session k) (may_step (record r.session { timed = after r.session.timed k })) h
    (goes_while r.session k))

pub traced_run : (n : ℕ) (old new : LabState) (end : End) → IsInTime (timed old) → Traced n old new
    → end ≡ end_now new.recording.session
    → HasRun (step_ends old.recording.session) n old.recording.session new.recording.session end
traced_run n old new end h t ended = search (rules, arith, all_stepped, no_member)

pub traced_others : (n : ℕ) (old new : LabState) → IsInTime (timed old) → Traced n old new
    → new ≡ with_session old new.recording.session
traced_others n old new h t = search (rules, arith, all_stepped)

-- a goal of which each step is told
pub trace_goal : (g : Goal) → is_traced g ≡ true → goal.Trace ≡ g
trace_goal g e = search (rules, arith)

-- any other goal
pub none_told : {E : Type 0} (r : Result End E) (g : Goal) (b : Bool) (n : ℕ) (l : LabState) (xs : List Step)
    → b ≡ is_traced g → b ≡ false → OnOk r (xs ≡ xs ++ told_steps g n l)
none_told r g b n l xs is other = search (rules, arith)

-- ---- what leads to what

joined : (a b c : TimedState) → Leads a b → Leads b c → Leads a c
joined a b _ h nowhere = h
joined a b _ h (steps s n t) = steps s n (joined a b s h t)
joined a b _ h (due s t) = due s (joined a b s h t)
joined a b _ h (by_hand s input t) = by_hand s input (joined a b s h t)

pub to_steps : (s : TimedState) (n : ℕ) → Leads s (after s n)
to_steps s n = steps s n nowhere

to_due : (s : TimedState) (n : ℕ) → Leads s (with_due (after s n))
to_due s n = due (after s n) (to_steps s n)

-- the inputs before a step and then the step
from_due : (s : TimedState) (k m : ℕ) → k < m → never_falls s.inputs ≡ true → Leads (with_due (after s k)) (after s m)
from_due s k m l rising = rw (← same) (steps _ _ nowhere) where
  same : after (with_due (after s k)) (1 + (m - k - 1)) ≡ after s m
  same = search (rules, arith, after_due, after_rises, after_more)

leads_by : (b : Bool) (r : RecordingState)
    → Leads r.session.timed (if b then with_timed r (after r.session.timed 1) else r).session.timed
leads_by b r = search (rules, arith, to_steps, nowhere)

leads_steps : (k : ℕ) (r : RecordingState) → Leads r.session.timed (stepped_by k r).session.timed
leads_steps zero r = nowhere
leads_steps (suc k) r = joined _ _ _ (leads_by (may_step r.session) r) (leads_steps k (stepped r))

leads_inputs : (inputs : List Input) (s : TimedState) → Leads s (fold given s inputs)
leads_inputs [] s = nowhere
leads_inputs (x ∷ xs) s = joined _ _ _ (by_hand s x nowhere) (leads_inputs xs (given s x))

-- ---- runs that stopped short

module _ (g : Goal) (ends : ℕ → Option End) (most : ℕ) (old new : LabState) (rising : never_falls (timed old).inputs ≡ true)
    (r : IsRefusedIn ends most old.recording.session new.recording.session)
    (others : new ≡ ran_to g old new.recording.session) where
  timed_due : timed new ≡ with_due (after (timed old) (steps_between (timed old) (timed new)))
  timed_due = ap (λ (s : SessionState). s.timed) r.state

  session_is : new.recording.session ≡ record old.recording.session { timed = timed new }
  session_is = r.state ∙ ap (λ (t : TimedState). record old.recording.session { timed = t }) (sym timed_due)

  refused_stops : StopsIn g ends most old new
  refused_stops = search (rules, arith, timed_due, to_due, from_due, session_is)

ran_over : (g : Goal) (l : LabState) (q : RecordingState) (gs : List Guard) → q ≡ record l.recording { session = q.session }
    → gs ≡ guards_by g l (steps_between (timed l) q.session.timed)
    → record l { recording = q; guards = gs } ≡ ran_to g l q.session
ran_over g l q gs others counts = search (rules, arith)

-- one by its recording and its guards
pub refused_err : (r : Result End NoMemory) (st lent : Stops) (g : Goal) (most : ℕ) (inside old : LabState)
    (q : RecordingState) (gs : List Guard) → lent ≡ st → inside ≡ old → IsInTime (timed old)
    → OnErr r (IsRefusedIn (run_ends lent g inside.recording.session) most inside.recording.session q.session)
    → q ≡ record inside.recording { session = q.session }
    → gs ≡ guards_by g inside (steps_between (timed inside) q.session.timed)
    → OnErr r (StopsIn g (run_ends st g old.recording.session) most old (record inside { recording = q; guards = gs }))
refused_err (Ok end) st lent g most inside old q gs whole same h refused others counts = tt
refused_err (Err why) st lent g most inside old q gs whole same h refused others counts =
    rw (← whole, ← same) (refused_stops g _ most inside _ (rw same h.rising) refused (ran_over g inside q gs others counts))

pub stops_are : (gs hs : List Guard) (ws vs : List Watched) (ms ns : List ℕ) → gs ≡ hs → ws ≡ vs → ms ≡ ns
    → ◌≡◌ {A = Stops} (record { guards = gs; watches = ws; marks = ms }) (record { guards = hs; watches = vs; marks = ns })
stops_are gs hs ws vs ms ns a b c = search (rules, arith)

pub piece_err : {A : Type 0} (r : Result A NoMemory) (p : Plan) (most : ℕ) (old at_first new : LabState)
    → most ≡ piece_most p old → at_first ≡ record old { plan = None; resumes = goal.Break }
    → StopsIn p.goal (run_ends (stops_of at_first) p.goal at_first.recording.session) most at_first new
    → OnErr r (StopsShort (Some p.goal) (GoesOnWith p) old new)
piece_err r p most old at_first new most_is is short =
    let s = rw (is, most_is) at short in
    on_err r (StopsShort (Some p.goal) (GoesOnWith p) old new) (gone_on p old, refl, s.0, s.1, grind (arith, s.2))

-- ---- steps that stopped short

pub step_refused : (inside old new : RecordingState) → inside ≡ old
    → never_falls inside.session.timed.inputs ≡ true → (why : NoMemory)
    → TakesStep inside.session new.session (Err why) → new ≡ record inside { session = new.session }
    → IsOnWay old new (stepped old)
step_refused inside old new same rising why t others =
    let now = ap (λ (s : SessionState). s.timed) t.1 in
    rw (← same, t.0) (
      rw now (due inside.session.timed nowhere),
      rw now (subst (Leads (with_due inside.session.timed)) (after_due inside.session.timed 0 rising)
          (steps (with_due inside.session.timed) 1 nowhere)),
      others ∙ ap (λ (s : SessionState). record inside { session = s })
          (t.1 ∙ ap (λ (u : TimedState). record inside.session { timed = u }) (sym now)),
    )

-- a single step
pub once_short : {A : Type 0} (r : Result A NoMemory) (old counted mid new : LabState) → counted ≡ record old { count = 1 }
    → mid ≡ begun counted → old.plan ≡ None → IsOnWay mid.recording new.recording (stepped mid.recording)
    → new ≡ record mid { recording = new.recording } → OnErr r (StopsShort None (Leaves orders.Once) old new)
once_short r old counted mid new one is none way others =
    let at : mid ≡ begun (record old { count = 1 }) = is ∙ ap begun one in
    let w = rw at at way in
    let done : LabState = record (begun (record old { count = 1 })) { recording = stepped old.recording } in
    on_err r (StopsShort None (Leaves orders.Once) old new) (with_console done, refl, w.0, w.1, grind arith)

same_others : (b : Bool) (r : RecordingState) (t : TimedState)
    → with_timed (if b then with_timed r (after r.session.timed 1) else r) t ≡ with_timed r t
same_others b r t = search (rules, arith)

-- what is on the way to the next step is on the way to n of them
pub first_on_way : (n : ℕ) (old new : RecordingState) → 0 < n → IsOnWay old new (stepped old)
    → IsOnWay old new (stepped_by n old)
first_on_way n old new h way = search (rules, arith, one_and_more, joined, leads_steps)

further_on_way : (n : ℕ) (old new : RecordingState) → 0 < n
    → IsOnWay (stepped old) new (stepped_by (n - 1) (stepped old)) → IsOnWay old new (stepped_by n old)
further_on_way n old new h way = (
  joined _ _ _ (leads_by (may_step old.session) old) way.0,
  rw (one_and_more n old h) way.1,
  way.2 ∙ same_others (may_step old.session) old new.session.timed,
)

pub traced_further : {A : Type 0} (r : Result A NoMemory) (n : ℕ) (old mid new : LabState) → 0 < n
    → mid ≡ record old { recording = stepped old.recording }
    → OnErr r (IsOnWay mid.recording new.recording (stepped_by (n - 1) mid.recording))
    → OnErr r (IsOnWay old.recording new.recording (stepped_by n old.recording))
traced_further r n old mid new h e s = search (rules, arith, further_on_way)

-- steps past any breakpoint
pub traced_stops : (n : ℕ) (old new : LabState) → IsInTime (timed old)
    → IsOnWay old.recording new.recording (stepped_by n old.recording) → new ≡ record old { recording = new.recording }
    → StopsIn goal.Trace (step_ends old.recording.session) n old new
traced_stops n old new h way others = (
  way.0,
  subst (λ (r : RecordingState). Leads (timed new) r.session.timed) (all_stepped n old.recording h) way.1,
  rw (traced_guards old.marks old.guards old.recording.session (steps_between (timed old) (timed new))) (grind arith),
)

-- ---- inputs by hand

pub gave_no : (old : LabState) (inputs : List Input) → length inputs < 1 → old ≡ with_inputs old inputs
gave_no old [] h = refl
gave_no old (x ∷ more) h = absurd (omega (arith, h))

pub gave_list : {A : Type 0} (r : Result A NoMemory) (old mid new : LabState) (inputs : List Input) (input : Input)
    → 1 ≤ length inputs → input ≡ get_or inputs 0 input → mid ≡ with_inputs old (input ∷ [])
    → OnOk r (new ≡ with_inputs mid (take (length inputs - 1) (drop 1 inputs))) → OnOk r (new ≡ with_inputs old inputs)
gave_list r old mid new [] input h is e g = absurd (omega (arith, h))
gave_list r old mid new (x ∷ more) input h is e g = search (rules, arith, take_all)

pub gave_nothing : (old new : LabState) (inputs : List Input) → old.plan ≡ None → new ≡ old
    → StopsShort None (Gives inputs) old new
gave_nothing old new inputs none e =
    let last = ap (λ (q : Option Plan). record old { plan = q }) none in
    rw e (with_inputs old inputs, refl, nowhere, leads_inputs inputs (timed old), last)

pub gave_rest : {A : Type 0} (r : Result A NoMemory) (old mid new : LabState) (inputs : List Input) (input : Input)
    → 1 ≤ length inputs → input ≡ get_or inputs 0 input → mid ≡ with_inputs old (input ∷ [])
    → OnErr r (StopsShort None (Gives (take (length inputs - 1) (drop 1 inputs))) mid new)
    → OnErr r (StopsShort None (Gives inputs) old new)
gave_rest (Ok a) old mid new inputs input h is e s = tt
gave_rest (Err why) old mid new [] input h is e s = absurd (omega (arith, h))
gave_rest (Err why) old mid new (x ∷ more) input h is e s =
    let same : take (length (x ∷ more) - 1) more ≡ more = take_all (length (x ∷ more) - 1) more (omega arith) in
    let t = rw (e, is, same) at s in (t.0, t.1, joined _ _ _ (by_hand (timed old) x nowhere) t.2, t.3, t.4)
