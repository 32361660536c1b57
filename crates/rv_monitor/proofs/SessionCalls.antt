-- The calls of a session, by the calls of its board with the timed inputs.
use Rattle.std.proofs.Common.{rules, arith, ◌≡◌, ℕ}
use Rattle.std.specs.Prelude.{Result, Ok, Err, OnOk, OnErr, IfOk}
use Rattle.rv_base.specs.declared.memory.NoMemory.{NoMemory}
use Rattle.rv_monitor.specs.declared.stop.Stop.{Stop}
use Rattle.rv_monitor.specs.State.{Addresses, TimedState, SessionState}
use Rattle.rv_monitor.specs.Stops.{Took, WasRefused, stop_of}
use Rattle.rv_monitor.specs.Support.TimedCalls.{HasStopped, IsRefused, most_of}

module _ (a : Addresses) (n : ℕ) (old new : SessionState) where
  abbrev put : TimedState → SessionState
  put t = record old { timed = t }

  pub took : (r : Result Stop NoMemory) → IfOk r (HasStopped a (most_of old n) old.timed new.timed)
      → new ≡ put new.timed → OnOk r (Took a n old new)
  took r h e = search (rules, arith)

  pub word : (r : Result Stop NoMemory) → IfOk r (HasStopped a (most_of old n) old.timed new.timed)
      → IfOk r (λ stop. stop ≡ stop_of a old new)
  word (Ok stop) h = h.word
  word (Err refusal) h = tt

  pub was_refused : (r : Result Stop NoMemory) → OnErr r (IsRefused a (most_of old n) old.timed new.timed)
      → new ≡ put new.timed → OnErr r (WasRefused a n old new)
  was_refused r h e = search (rules, arith)
