-- The search for the last step of a kind.
use Rattle.std.proofs.lemmas.Bool.Decides.{nat_tests}
use Rattle.std.proofs.Common.{rules, ◌≡◌, ℕ, zero, suc, ◌+◌, ◌<◌, ◌≤◌, Bool, add-one, refl, sym, ap, arith}
use native.Mathlib.Numerals.{unary_clauses}
use Rattle.std.specs.Prelude.{if◌then◌else◌, IfSome, Option, Some, None}
use Rattle.rv_board.specs.Support.State.{halted_of}
use Rattle.rv_monitor.specs.Laws.{IsReached}
use Rattle.rv_monitor.specs.State.{IsInTime, SessionState, TimedState, after}
use Rattle.rv_monitor.proofs.Steps.{after_more}
use Rattle.rv_recording.specs.Recording.{RecordingState, first_board, gone_back}
use Rattle.rv_why.specs.Origins.{last_sought, is_sought}
use Rattle.rv_why.specs.Support.Found.{next_of}
use Rattle.rv_why.specs.declared.writes.Sought.{Sought}
use Rattle.rv_why.specs.Taken.{first_state}
use Rattle.rv_why.proofs.Replays.{first_in_time}
use Rattle.rv_why.proofs.Standing.{next_is, stands, stands_first, timed_is}

-- n steps were taken, of which the last one that is sought is known
pub record Following (x : Sought) (first now : SessionState) (found : Option ℕ) (n : ℕ) : Type 0 where
  pub state : now ≡ stands first n
  pub last : found ≡ last_sought x first.timed n
  pub within : IfSome found (λ k. k < n)

pub follows_none : {x : Sought} {first : SessionState} → IsInTime first.timed → Following x first first None 0
unfolding last_sought
follows_none {x} {first} h = record { state = stands_first first h; last = refl; within = tt }

last_suc : (x : Sought) (s : TimedState) (n : ℕ) → last_sought x s (n + 1)
    ≡ (if is_sought x (after s n) then Some n else last_sought x s n)
unfolding last_sought
last_suc x s n = ap (last_sought x s) (add-one n)

more_within : (b : Bool) (found : Option ℕ) (n : ℕ) → IfSome found (λ k. k < n)
    → IfSome (if b then Some n else found) (λ k. k < n + 1)
more_within b found n h = search (rules, arith, nat_tests)

pub followed : {x : Sought} {first now next : SessionState} {found : Option ℕ} {n : ℕ} {b : Bool} → IsInTime first.timed
    → Following x first now found n → next ≡ next_of now → b ≡ is_sought x now.timed
    → Following x first next (if b then Some n else found) (n + 1)
followed {x} {first} {found = found} {n = n} {b = b} h at moves e = record {
  state = next_is n h at.state moves;
  last = rw (e, timed_is n h at.state, at.last) (sym (last_suc x first.timed n));
  within = more_within b found n at.within;
}

-- ---- of more steps

-- by the last one among the later steps, or else among the first k
abbrev pub later : ℕ → Option ℕ → Option ℕ → Option ℕ
later k None before = before
later k (Some n) before = Some (k + n)

later_by : (b : Bool) (k m : ℕ) (late before : Option ℕ)
    → (if b then Some (k + m) else later k late before) ≡ later k (if b then Some m else late) before
later_by b k m late before = search (rules, arith, nat_tests)

pub last_later : (x : Sought) (s : TimedState) (k m : ℕ) → IsInTime s
    → last_sought x s (k + m) ≡ later k (last_sought x (after s k) m) (last_sought x s k)
unfolding last_sought
last_later x s k zero h = simp unary_clauses refl
last_later x s k (suc m) h =
    let same : after (after s k) m ≡ after s (k + m) = after_more s k m h.rising in
    simp unary_clauses (rw (last_later x s k m h, same)
    (later_by (is_sought x (after s (k + m))) k m (last_sought x (after s k) m) (last_sought x s k)))

-- ---- a session that stands in a recording

module _ (r : RecordingState) (reached : IsReached (first_board r) r.session.timed) {t : TimedState} (k : ℕ)
    (e : t ≡ (gone_back r k).session.timed) where
  pub near_running : {most : ℕ} → k + most ≤ r.session.timed.taken → (i : ℕ) → i < most
      → halted_of (after t i).board ≡ None
  near_running h i l = search (rules, arith, nat_tests, after_more)

  pub near_taken : t.taken ≡ k
  unfolding after
  near_taken = search (rules, arith, nat_tests)

  pub last_near : (x : Sought) (m n : ℕ) {found : Option ℕ} → k + m ≡ n → found ≡ last_sought x t m
      → last_sought x (first_state r) n ≡ later k found (last_sought x (first_state r) k)
  last_near x m n sum late = search (rules, arith, nat_tests, last_later, first_in_time)

pub last_none : (x : Sought) (s : TimedState) (n : ℕ) → n ≡ 0 → last_sought x s n ≡ None
unfolding last_sought
last_none x s n e = ap (last_sought x s) e
