-- What a step in user mode leaves as it was.
use Rattle.std.proofs.Common.{rules, ◌≡◌, Result, Ok, Err}
use Rattle.rv_isa.specs.declared.kind.Kind.{Kind}
use Rattle.rv_pmp.specs.declared.mode.Mode.TheVariants as mode
use Rattle.rv_csr.specs.Traps.{entered}
use Rattle.rv_csr.proofs.Levels.{nothing_read}
use Rattle.rv_hart.specs.State.{Machine}
use Rattle.rv_hart.specs.Effect.{effect}
use Rattle.rv_hart.specs.Support.EffectParts.{return_effect}
use Rattle.rv_hart.specs.Laws.{ChangesByTrap}
use Rattle.rv_hart.specs.Step.{step, ticked, fetched, attempt, counts, enter}
use Rattle.rv_hart.specs.declared.trap.Trap.{Trap}
use Rattle.rv_hart.proofs.Devices.{IfRetired, rows}

-- the mode and the control registers are as they were
abbrev IsAlike : Machine → Machine → Type 0
IsAlike m new = (new.mode ≡ m.mode) × (new.csrs ≡ m.csrs)

effects : (m : Machine) → m.mode ≡ mode.User → (k : Kind) → IfRetired (IsAlike m) (effect k m)
unfolding return_effect
effects m user = rows m (IsAlike m) (λ new same still. (same, still))
    (λ k op field operand rd csr. rw (user, nothing_read) tt) (rw user tt)

-- ---- a step

attempts : (m : Machine) → m.mode ≡ mode.User → (f : Result Kind Trap)
    → ChangesByTrap m (attempt (ticked m) f).0 (attempt (ticked m) f).1
unfolding counts enter entered
attempts m user (Ok k) =
    let same : IfRetired (IsAlike (ticked m)) (effect k (ticked m)) = effects (ticked m) user k in search rules
attempts m user (Err t) = search rules

-- one step
pub user_changes : (m : Machine) → m.mode ≡ mode.User → ChangesByTrap m (step m).0 (step m).1
unfolding step
user_changes m user = attempts m user (fetched (ticked m))
