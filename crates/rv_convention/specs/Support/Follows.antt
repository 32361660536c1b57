-- Not to audit: private contracts alone cite this.
-- A step that was followed.
use Rattle.std.specs.Prelude.{◌≡◌, ℕ, ◌+◌, Bool, true, false}
use Rattle.rv_board.specs.BoardState.{BoardState}
use Rattle.rv_monitor.specs.State.{SessionState, after}
use Rattle.rv_monitor.specs.Stops.{may_step}
use Rattle.rv_convention.specs.Convention.{Moment, moment, turn_of}
use Rattle.rv_convention.specs.declared.turn.Turn.{Turn}

-- what is known after a step, by where it began, what it meant, and the board after it
abbrev pub by_turn : {P : Type 0} → (P → ℕ → Turn → BoardState → P) → P → Moment → P
by_turn follows p m = follows p m.before.machine.pc (turn_of m.before m.did) m.now

-- there was none, or it was taken and followed
abbrev pub Follows : {P : Type 0} → (P → ℕ → Turn → BoardState → P) → (P → ℕ) → SessionState → SessionState
    → P → P → Bool → Type 0
Follows follows steps old new seen now false = (may_step old ≡ false) × (now ≡ seen)
Follows follows steps old new seen now true = (may_step old ≡ true)
    × (new ≡ record old { timed = after old.timed 1 }) × (now ≡ by_turn follows seen (moment old.timed))
    × (steps now ≡ steps seen + 1)
