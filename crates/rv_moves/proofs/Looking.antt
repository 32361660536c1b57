-- The search for the last stop.
use Rattle.std.proofs.Common.{◌≡◌, ◌∙◌, ℕ, zero, suc, ◌+◌, ◌-◌, ◌<◌, ◌≤◌, Bool, true, false, add-one, refl, ap, arith, rules}
use Rattle.std.specs.Prelude.{if◌then◌else◌, is_some, min, List, Option, Some, None, IfSome, Ok}
use Rattle.std.specs.FinSet as set
use Rattle.std.proofs.lemmas.Bool.{false≢true, lt-ltb}
use Rattle.rv_board.specs.Support.State.{halted_of}
use Rattle.rv_monitor.specs.Laws.{IsReached}
use Rattle.rv_monitor.specs.State.{Addresses, SessionState, TimedState, after}
use Rattle.rv_hart.specs.declared.trap.Outcome.{Outcome}
use Rattle.rv_monitor.specs.Stops.{TakesStep}
use Rattle.rv_monitor.proofs.Reached.{begun_stands, in_time}
use Rattle.rv_monitor.proofs.Steps.{after_more}
use Rattle.rv_recording.specs.Recording.{RecordingState, first_board, gone_back, with_timed}
use Rattle.rv_recording.specs.Refused.{NoneEnds}
use Rattle.rv_recording.specs.Until.{HasRun, steps_of}
use Rattle.rv_recording.specs.declared.until.End.{End}
use Rattle.rv_recording.proofs.Counting.{none_before, steps_within, takes_more}
use Rattle.rv_moves.proofs.Ends.{first_none, goes}
use Rattle.rv_moves.specs.Back.{first_state, last_stop, left_by, taken}
use Rattle.rv_moves.specs.Runs.{run_ends}
use Rattle.rv_moves.specs.Support.Looking.{Looked, WentBack, or_else}
use Rattle.rv_moves.specs.Watches.{met}
use Rattle.rv_moves.specs.declared.back.Back.{Back}
use Rattle.rv_moves.specs.declared.forward.Aim.TheVariants.{Stop}
use Rattle.rv_moves.specs.declared.watch.Watch.{Watch}

-- ---- recordings that went back

pub taken_at : (r : RecordingState) (n : ℕ) → taken (gone_back r n) ≡ n
unfolding after
taken_at r n = omega arith

-- one that goes back from where another does, and stops there
pub record Same (old now : RecordingState) : Type 0 where
  pub back : (n : ℕ) → gone_back now n ≡ gone_back old n
  pub stop : (ws : List Watch) (n : ℕ) → last_stop ws now.session.breakpoints.addresses (first_state now) n
      ≡ last_stop ws old.session.breakpoints.addresses (first_state old) n

same_back : {r now : RecordingState} (k : ℕ) → now ≡ gone_back r k → Same r now
unfolding after
same_back k is = record { back = λ n. rw is refl; stop = λ ws n. rw is refl }

pub went_back : (r : RecordingState) {now : RecordingState} {to : ℕ} (k : ℕ) → now ≡ gone_back r k
    → ((i : ℕ) → i < to → halted_of (after (first_state r) i).board ≡ None) → to ≤ r.session.limit → WentBack to now
unfolding after
went_back r k is running room = search (rules, arith)

-- ---- a look

module _ (ws : List Watch) (to : ℕ) {old : RecordingState} (reached : IsReached (first_board old) old.session.timed)
    (back : WentBack to old) (below : taken old < to) where
  abbrev first : TimedState
  first = first_state old

  abbrev br : Addresses
  br = old.session.breakpoints.addresses

  abbrev n : ℕ
  n = taken old

  here : old.session.timed ≡ after first n
  here = ap (λ (r : RecordingState). r.session.timed) back.at

  later : (k : ℕ) → after old.session.timed k ≡ after first (n + k)
  later k = search (rules, arith, here, after_more, in_time, begun_stands)

  -- the steps taken are looked at
  looked : (new : RecordingState) (k : ℕ) (found : Option Back) → new ≡ with_timed old (after old.session.timed k) → 0 < k
      → n + k ≤ to → last_stop ws br first (n + k) ≡ or_else found (last_stop ws br first n)
      → IfSome found (λ b. b.steps ≤ n + k) → Looked ws to old n new found × (n < taken new)
  looked new k found e some within last earlier =
      let state : new ≡ gone_back old (n + k) = e ∙ ap (with_timed old) (later k) in
      search (rules, arith, taken_at old (n + k))

  -- one that meets a watch
  pub met_one : {new : RecordingState} {w : Watch} (o : Option Outcome) → TakesStep old.session new.session (Ok o)
      → new ≡ record old { session = new.session } → Some w ≡ met ws old.session.timed.board → (m : ℕ) → m ≡ taken old
      → Looked ws to old n new (Some (record { steps = m + 1; watch = Some w })) × (n < taken new)
  unfolding last_stop
  met_one {new} {w} o t others is m same =
      looked new 1 _ (search (rules, arith, false≢true, here)) (omega arith) (omega (arith, below))
      (rw (same, add-one, ← here, ← is) refl) (omega (arith, same))

  -- a run up to the next stop
  module _ {new : RecordingState} {most : ℕ} {end : End} (is : most ≡ to - n)
      (ran : HasRun (run_ends ws Stop 0 old.session) most old.session new.session end)
      (others : new ≡ record old { session = new.session }) (unmet : met ws old.session.timed.board ≡ None) where
    abbrev ends : ℕ → Option End
    ends = run_ends ws Stop 0 old.session

    abbrev count : ℕ
    count = steps_of ends most

    some_steps : 0 < count
    some_steps =
        takes_more ends 0 most (omega (arith, is, below)) (first_none ends (search (rules, arith, later, here, goes)))

    none_at : (i : ℕ) → ends i ≡ None → (is_some (met ws (after first (n + i)).board) ≡ false)
        × (0 < i → set.contains br (after first (n + i)).board.machine.pc ≡ false)
    none_at i e = search (rules, arith, later, lt-ltb)

    -- the first place may be at a breakpoint, and no other is a stop
    quiet : (b : Bool) → b ≡ set.contains br old.session.timed.board.machine.pc → (k : ℕ) → NoneEnds ends (suc k)
        → last_stop ws br first (n + suc k)
        ≡ (if b then Some (record { steps = n; watch = None }) else last_stop ws br first n)
    unfolding last_stop
    quiet b e zero none = rw (add-one, ← here, unmet, e) refl
    quiet b e (suc k) none =
        let one : n + suc (suc k) ≡ suc (n + suc k) = omega arith in
        let last = none_at (suc k) (none (suc k) (omega arith)) in
        rw (one, last.0, last.1 (omega arith)) (quiet b e k (λ i l. none i (omega (arith, l))))

    last_is : (b : Bool) → b ≡ set.contains br old.session.timed.board.machine.pc → last_stop ws br first (n + count)
        ≡ (if b then Some (record { steps = n; watch = None }) else last_stop ws br first n)
    last_is b e = let one : count ≡ suc (count - 1) = omega (arith, some_steps) in
        rw one (quiet b e (count - 1) (rw one at (none_before ends most)))

    seen : (found : Option Back) → last_stop ws br first (n + count) ≡ or_else found (last_stop ws br first n)
        → IfSome found (λ b. b.steps ≤ n + count) → Looked ws to old n new found × (n < taken new)
    seen found = looked new count found (others ∙ ap (λ (s : SessionState). record old { session = s }) ran.state) some_steps
        (omega (arith, steps_within ends most, is, below))

    pub ran_on : (b : Bool) → b ≡ set.contains br old.session.timed.board.machine.pc → (m : ℕ) → m ≡ taken old
        → Looked ws to old n new (if b then Some (record { steps = m; watch = None }) else None) × (n < taken new)
    ran_on true e m same = seen _ (rw same (last_is true e)) (omega (arith, same))
    ran_on false e m same = seen None (last_is false e) tt

-- ---- looks, one after another

pub looked_none : (ws : List Watch) {old now : RecordingState} {to : ℕ} (from : ℕ) → from ≤ to → to ≤ taken old
    → now ≡ gone_back old (min from (taken old)) → Looked ws to old from now None
looked_none ws {old} {now} from less within went =
    let least : min from (taken old) ≡ from = omega (arith, less, within) in search (rules, arith, taken_at old from)

module _ {ws : List Watch} {to from : ℕ} {old mid : RecordingState} {found : Option Back}
    (l : Looked ws to old from mid found) where
  same : Same old mid
  same = same_back (taken mid) l.state

  pub looks_some : {new : RecordingState} {b : Back} → Looked ws to mid (taken mid) new (Some b) → Looked ws to old from new (Some b)
  looks_some h = search (rules, arith, same.back, same.stop)

  pub looks_on : {new : RecordingState} → Looked ws to mid (taken mid) new None → taken mid < taken new → Looked ws to old from new found
  looks_on h less = search (rules, arith, same.back, same.stop)

-- ---- a run back

-- what is left to be looked at: the first `high` steps
pub record Backed (ws : List Watch) (old now : RecordingState) (high : ℕ) : Type 0 where
  pub back : (n : ℕ) → gone_back now n ≡ gone_back old n
  pub within : high ≤ taken now
  pub last : last_stop ws old.session.breakpoints.addresses (first_state old) (taken old)
      ≡ last_stop ws now.session.breakpoints.addresses (first_state now) high

module _ {ws : List Watch} {old now : RecordingState} {high : ℕ} (b : Backed ws old now high) where
  module _ {new : RecordingState} {low : ℕ} {found : Option Back} (l : Looked ws high now low new found) where
    same_new : Same now new
    same_new = same_back (taken new) l.state

    pub backs_on : found ≡ None → taken new ≡ high → low ≤ high → Backed ws old new low
    backs_on none all less = search (rules, arith, same_new.back, same_new.stop, b.back)

    pub goes_to : {last : RecordingState} {stop : Back} → found ≡ Some stop
        → last ≡ gone_back new (min stop.steps (taken new)) → last ≡ gone_back old (left_by (Some stop))
    goes_to e back = search (rules, arith, same_new.back, b.back)

  pub backs_none : high ≡ 0 → None ≡ last_stop ws old.session.breakpoints.addresses (first_state old) (taken old)
  unfolding last_stop
  backs_none e = search (rules, arith)
