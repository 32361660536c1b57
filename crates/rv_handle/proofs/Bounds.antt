-- How many steps a call takes that goes on.
use Rattle.std.proofs.Common.{◌≡◌, ℕ, subst, arith}
use Rattle.std.specs.Prelude.{max}
use Rattle.rv_lab.specs.Commands.{IsWithin}
use Rattle.rv_lab.specs.State.{LabState}

pub at_least_one : (n : ℕ) → max (max n 1) 1 ≡ max n 1
at_least_one n = omega arith

pub piece_within : (n : ℕ) (old new : LabState) → IsWithin (max (max n 1) 1) old new → IsWithin (max n 1) old new
piece_within n old new h = subst (λ (k : ℕ). IsWithin k old new) (at_least_one n) h
