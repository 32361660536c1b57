-- A session after some of its steps.
use Rattle.std.proofs.Common.{rules, ◌≡◌, ℕ, ◌+◌, ◌<◌, ◌≤◌, true, sym, ap, arith}
use Rattle.std.specs.Prelude.{is_none, Option, None}
use Rattle.std.proofs.lemmas.Bool.Decides.{nat_tests}
use Rattle.rv_board.specs.Support.State.{halted_of}
use Rattle.rv_monitor.specs.State.{IsInTime, SessionState, TimedState, after}
use Rattle.rv_monitor.specs.Stops.{may_step}
use Rattle.rv_monitor.proofs.Steps.{after_none, after_more}
use Rattle.rv_why.specs.Support.Found.{next_of}

-- n steps were taken
abbrev pub stands : SessionState → ℕ → SessionState
stands first n = record first { timed = after first.timed n }

pub stands_first : (first : SessionState) → IsInTime first.timed → first ≡ stands first 0
stands_first first h = ap (λ (t : TimedState). record first { timed = t }) (sym (after_none first.timed h))

running_by : (h : Option ℕ) → h ≡ None → is_none h ≡ true
running_by h e = search (rules, arith, nat_tests)

module _ {first now : SessionState} (n : ℕ) (h : IsInTime first.timed) (state : now ≡ stands first n) where
  pub timed_is : now.timed ≡ after first.timed n
  timed_is = ap (λ (u : SessionState). u.timed) state

  pub may_go : {most : ℕ} → n < most → first.timed.taken + most ≤ first.limit
      → ((i : ℕ) → i < most → halted_of (after first.timed i).board ≡ None) → may_step now ≡ true
  unfolding after
  may_go l room runs = search (rules, arith, nat_tests, running_by)

  pub next_is : {next : SessionState} → next ≡ next_of now → next ≡ stands first (n + 1)
  next_is moves = search (rules, arith, nat_tests, after_more)
