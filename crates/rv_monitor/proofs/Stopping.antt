-- When a call ends: parts of it, several steps at once and one part after another.
use Rattle.std.proofs.Common.{rules, ◌≡◌, ◌∙◌, ℕ, zero, suc, ◌+◌, ◌-◌, ◌<◌, ◌≤◌, true, false, List, drop, replicate, refl, sym, ap, arith}
use Rattle.std.specs.Prelude.{Option, Some, None, unwrap_or, is_some, Result, Err, OnErr}
use Rattle.std.specs.FinSet as set
use Rattle.std.proofs.lemmas.Bool.{cases_lt, false≢true, lt-ltb}
use Rattle.std.proofs.lemmas.List.{replicate-append-replicate}
use Rattle.rv_base.specs.declared.memory.NoMemory.{NoMemory}
use Rattle.rv_timeline.specs.declared.input.TimedInput.{TimedInput}
use Rattle.rv_board.specs.Support.State.{BoardState, halted_of, pc_of}
use Rattle.rv_board.specs.Move.{moved, run, writes}
use Rattle.rv_board.specs.PlainSteps.{after_steps, TookPlain}
use Rattle.rv_board.specs.declared.event.Event.TheVariants.{Step}
use Rattle.rv_board.proofs.Runs.{run_append}
use Rattle.rv_monitor.specs.declared.stop.Stop.{Stop}
use Rattle.rv_monitor.specs.declared.stop.Stop.TheVariants.{Halted, Limit}
use Rattle.rv_monitor.specs.State.{Addresses, TimedState, IsInTime, rest, after, with_due}
use Rattle.rv_monitor.specs.Stops.{stop_after}
use Rattle.rv_monitor.specs.Support.TimedCalls.{HasStopped, IsRefused}
use Rattle.rv_monitor.specs.Support.Took.{TookPart}
use Rattle.rv_monitor.proofs.Times.{from, from_earlier}
use Rattle.rv_monitor.proofs.Steps.{after_none, after_quiet, none_is_due, halted_due, again}

-- ---- the reason to end

-- it does not depend on how many steps were taken, if any were
pub same_stop : (a : Addresses) (b : BoardState) (m n : ℕ) → 0 < m → 0 < n → stop_after a b m ≡ stop_after a b n
unfolding stop_after
same_stop a b m n h k = rw (lt-ltb 0 m h, lt-ltb 0 n k) refl

-- there is none where the board hasn't halted and, after the first step, isn't at a breakpoint
pub no_reason : (a : Addresses) (b : BoardState) (n : ℕ) → halted_of b ≡ None
    → (0 < n → set.contains a (pc_of b) ≡ false) → stop_after a b n ≡ None
unfolding stop_after
no_reason a b n runs unmarked = search (rules, arith, lt-ltb)

-- where there is none the board hasn't halted
pub running : (a : Addresses) (b : BoardState) (n : ℕ) → stop_after a b n ≡ None → halted_of b ≡ None
unfolding stop_after
running a b n e = search (rules, arith)

-- the number of steps that a call took
pub taken_is : (s new : TimedState) (n : ℕ) → new ≡ after s n → new.taken ≡ s.taken + n
unfolding after
taken_is s new n e = ap (λ u. u.taken) e

pub took_steps : (s new : TimedState) (n : ℕ) → new ≡ after s n → new.taken - s.taken ≡ n
took_steps s new n e = omega (arith, taken_is s new n e)

-- why a call ended, by the number of its steps
ended_for : (a : Addresses) (s new : TimedState) (n : ℕ) (stop : Stop) (reason : Option Stop) → new ≡ after s n
    → stop_after a new.board n ≡ reason → stop ≡ unwrap_or reason Limit
    → stop ≡ unwrap_or (stop_after a new.board (new.taken - s.taken)) Limit
ended_for a s new n stop reason is ends word = search (rules, arith, took_steps)

-- ---- one part of a call

-- before its first step a board that hasn't halted gives no reason to end
at_first : (a : Addresses) (b : BoardState) → halted_of b ≡ None → stop_after a b 0 ≡ None
at_first a b runs = search (rules, arith, no_reason)

-- plain steps
module _ (a : Addresses) (old new : BoardState) (n : ℕ) (t : TookPlain (set.contains a) old new n) where
  pub took_plain : (reason : Option Stop) → 0 < n → reason ≡ stop_after a new 1 → TookPart a old new n reason
  took_plain reason some is = search (rules, arith, no_reason, same_stop)

  pub took_no_plain : n ≡ 0 → TookPart a old new 0 None
  took_no_plain none = search (rules, arith, at_first)

-- one step
pub took_step : (a : Addresses) (old new : BoardState) (reason : Option Stop) → halted_of old ≡ None
    → new ≡ moved old Step → reason ≡ stop_after a new 1 → TookPart a old new 1 reason
took_step a old new reason runs moves is = search (rules, arith, at_first)

-- no step
pub took_none : (a : Addresses) (b : BoardState) → halted_of b ≡ None → TookPart a b b 0 None
took_none a b runs = search (rules, arith, at_first)

-- a board at which a call goes on has not halted
pub runs_on : (a : Addresses) (old new : BoardState) (n : ℕ) → TookPart a old new n None → halted_of new ≡ None
runs_on a old new n t = search (rules, arith, running)

-- ---- k steps after n others: the boards before the steps of both, and before those of the second part

-- before each of n steps there is no reason to end, and after the last there is this one, or none
pub record Went (a : Addresses) (boards : ℕ → BoardState) (n : ℕ) (reason : Option Stop) : Type 0 where
  pub going : (i : ℕ) → i < n → stop_after a (boards i) i ≡ None
  pub ends : reason ≡ stop_after a (boards n) n

went_of : {a : Addresses} {old new : BoardState} {n : ℕ} {reason : Option Stop} → TookPart a old new n reason
    → Went a (after_steps old) n reason
went_of {a} {n = n} t = record { going = t.going; ends = t.ends ∙ ap (λ b. stop_after a b n) t.state }

each_of : (P : ℕ → Type 0) (n k : ℕ) → ((i : ℕ) → i < n → P i) → ((j : ℕ) → j < k → P (n + j)) → (i : ℕ)
    → i < n + k → P i
each_of P n k low high i less = search (rules, arith, cases_lt, high (i - n))

module _ {a : Addresses} {both part : ℕ → BoardState} {n k : ℕ} {reason : Option Stop} (before : Went a both n None)
    (more : Went a part k reason) (same : (j : ℕ) → 0 < j → j ≤ k → both (n + j) ≡ part j)
    (runs : halted_of (part 0) ≡ None) where
  reason_at : (j : ℕ) → j ≤ k → stop_after a (both (n + j)) (n + j) ≡ stop_after a (part j) j
  reason_at zero le = search (rules, arith, at_first)
  reason_at (suc j) le = rw (same (suc j) (omega arith) le) (same_stop a (part (suc j)) _ _ (omega arith) (omega arith))

  went_on : Went a both (n + k) reason
  went_on = record {
    going = each_of (λ i. stop_after a (both i) i ≡ None) n k before.going
        (λ j l. reason_at j (omega arith) ∙ more.going j l);
    ends = more.ends ∙ sym (reason_at k (omega arith));
  }

-- before the last step of a part there is no reason to end, and after it there is none if it has none
goes_past : {a : Addresses} {boards : ℕ → BoardState} {n : ℕ} → Went a boards n None → (i : ℕ) → i ≤ n
    → stop_after a (boards i) i ≡ None
goes_past {n = n} w i le = search (rules, arith, cases_lt)

-- ---- a part of a call after another

more_steps : (b : BoardState) (n j : ℕ) → after_steps (after_steps b n) j ≡ after_steps b (n + j)
more_steps b n j =
    sym (run_append b (replicate n Step) (replicate j Step)) ∙ ap (run b) (replicate-append-replicate n j Step)

pub took_on : {a : Addresses} {old mid new : BoardState} {n k : ℕ} {given reason : Option Stop}
    → TookPart a old mid n None → TookPart a mid new k given → reason ≡ given → TookPart a old new (n + k) reason
took_on {old = old} {mid = mid} {n = n} {k = k} before more is =
    let w = went_on (went_of before) (went_of more)
    (λ j _ _. sym (more_steps old n j) ∙ ap (λ b. after_steps b j) (sym before.state)) (runs_on _ old mid n before) in
    search (rules, arith, more_steps)

-- two parts one after the other
pub took_twice : {a : Addresses} {old mid end new : BoardState} {n k j : ℕ} {first second reason : Option Stop}
    → TookPart a old mid n None → TookPart a mid end k first → first ≡ None → TookPart a end new j second
    → reason ≡ second → TookPart a old new (n + k + j) reason
took_twice before then none more is = took_on (took_on before then (sym none)) more is

-- what holds where a call returned that memory ran out
pub refused_with : (holds : Type 0) (r : Result (Option Stop) NoMemory) (e : NoMemory) → OnErr r holds → r ≡ Err e
    → holds
refused_with holds r e h is = search (rules, arith)

-- ---- a call at its beginning and its end

-- after n steps, and before each of them, a call has no reason to end
pub record GoesOn (a : Addresses) (old now : TimedState) (n : ℕ) : Type 0 where
  pub in_time : IsInTime old
  pub state : now ≡ after old n
  pub went : Went a (λ i. (after old i).board) n None

module _ (a : Addresses) (s : TimedState) where
  pub goes_first : IsInTime s → halted_of s.board ≡ None → GoesOn a s s 0
  goes_first h e = search (rules, arith, after_none, at_first)

  pub stopped_at_once : (most : ℕ) → IsInTime s → is_some (halted_of s.board) ≡ true → HasStopped a most s s Halted
  unfolding stop_after
  stopped_at_once most h e = search (rules, arith, after_none, ended_for)

  pub stopped_at_limit : (most n : ℕ) (new : TimedState) → GoesOn a s new n → n ≡ most → HasStopped a most s new Limit
  stopped_at_limit most n new g all = let none : stop_after a new.board n ≡ None = rw g.state (sym g.went.ends) in
      search (rules, arith, took_steps, none)

-- the inputs that are left after steps before which none comes, by the fields of the state
pub ahead_fields : (most : ℕ) (b : BoardState) (xs : List TimedInput) (place t : ℕ) (s : TimedState) (n : ℕ)
    → record { board = b; inputs = xs; place = place; taken = t } ≡ s → from (s.taken + most) (rest s) ≡ true
    → n ≤ most → from (t + n) (drop place xs) ≡ true
ahead_fields most b xs place t s n e quiet le = search (rules, arith, from_earlier, from)

-- ---- a part of a call: the next inputs are given, and then steps are taken before which no input comes

module _ {a : Addresses} {s mid : TimedState} {n : ℕ} (g : GoesOn a s mid n) {given : TimedState}
    (due : given ≡ with_due mid) where
  given_is : given ≡ with_due (after s n)
  given_is = due ∙ ap with_due g.state

  pub given_runs : halted_of given.board ≡ None
  given_runs = ap (λ u. halted_of u.board) given_is ∙ (halted_due (after s n) ∙ running a _ n (sym g.went.ends))

  module _ {later k : ℕ} (quiet : from later (rest given) ≡ true) (early : given.taken + k ≤ later)
      {new : TimedState} (is : new ≡ record given { board = new.board; taken = given.taken + k })
      {reason : Option Stop} (took : TookPart a given.board new.board k reason) where
    joined : (j : ℕ) → 0 < j → j ≤ k
        → after s (n + j) ≡ record given { board = after_steps given.board j; taken = given.taken + j }
    joined j some le = sym (ap (λ u. after u j) given_is ∙ again s g.in_time n j some)
        ∙ after_quiet given j (from_earlier _ later (rest given) quiet (omega arith))

    stands : 0 < k → new ≡ after s (n + k)
    stands some = search (rules, arith, joined)

    went : Went a (λ i. (after s i).board) (n + k) reason
    went = went_on g.went (went_of took) (λ j some le. ap (λ u. u.board) (joined j some le)) given_runs

    pub goes_further : reason ≡ None → 0 < k → GoesOn a s new (n + k)
    goes_further none some = record { in_time = g.in_time; state = stands some; went = rw none at went }

    -- a board that hasn't halted gives no reason to end before the first step
    some_taken : is_some reason ≡ true → 0 < k
    some_taken some = search (rules, arith, at_first, given_runs, false≢true, cases_lt)

    pub stopped : (most : ℕ) (stop : Stop) → reason ≡ Some stop → n + k ≤ most → HasStopped a most s new stop
    stopped most stop e within =
        let state = stands (some_taken (ap is_some e)) in
        let said : stop_after a new.board (n + k) ≡ Some stop = rw state (sym went.ends ∙ e) in
        record {
          count = n + k;
          within = within;
          going = went.going;
          least = λ less. ap is_some said;
          state = state;
          word = ended_for a s new (n + k) stop (Some stop) state said refl;
        }

    pub refused : (most : ℕ) → reason ≡ None → n + k < most → given.taken + k < later
        → writes new.board Step ≡ true → IsRefused a most s new
    refused most none less next w = record {
      count = n + k;
      within = less;
      going = goes_past (rw none at went);
      state = search (rules, arith, none_is_due, stands, given_is, cases_lt);
      next_writes = w;
    }
