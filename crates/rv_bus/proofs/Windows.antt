-- What holds of each location holds of the one at an address.
use Rattle.std.proofs.Common.{◌≡◌, ℕ, ◌-◌, ◌≤◌, ◌==◌, Bool, true, List, [], ◌∷◌, rules}
use Rattle.std.specs.List.{list_all}
use Rattle.std.proofs.lemmas.Bool.Decides.{nat_tests}
use Rattle.std.proofs.lemmas.Bool.{and_parts, cond_both, leb-true}
use Rattle.rv_base.specs.Limits.{ram_base}
use Rattle.rv_isa.specs.declared.op.Width.{Width}
use Rattle.rv_mmio.specs.declared.serial.SerialReg.{SerialReg}
use Rattle.rv_mmio.specs.declared.timer.TimerReg.{TimerReg}
use Rattle.rv_bus.specs.Support.Locations.{device_in, for_width, has, location_of, registers}
use Rattle.rv_bus.specs.declared.locations.Location.{Location}
use Rattle.rv_bus.specs.declared.locations.Location.TheVariants.{Ram, Halt, Timer, Plic, Serial, Nowhere}

-- ---- the window of one address

pub one_address : (first a : ℕ) → has first 1 a ≡ (a == first)
one_address first a = search (rules, nat_tests)

-- ---- a property of each location is one of the location at an address

-- a test that the registers, the interrupt controller and no location pass
pub at_device : (test : Location → Bool) (ys : List (ℕ × Location)) (a : ℕ)
    → list_all (λ y. test y.1) ys ≡ true → ((off : ℕ) → test (Plic off) ≡ true) → test Nowhere ≡ true
    → test (device_in ys a) ≡ true
at_device test [] a all plic nowhere = search (rules, cond_both)
at_device test (y ∷ ys) a all plic nowhere = search (rules, and_parts, cond_both, at_device test ys a)

pub each_device : (P : Location → Type 0) (a : ℕ) (w : Width) → P Halt → ((reg : TimerReg) → P (Timer reg))
    → ((off : ℕ) → P (Plic off)) → ((reg : SerialReg) → P (Serial reg)) → P Nowhere
    → P (for_width (device_in registers a) w)
each_device P a w halt timer plic serial nowhere = search (rules, cond_both, at_device)

pub each_location : (P : Location → Type 0) (size a : ℕ) (w : Width)
    → (ram_base ≤ a → P (Ram (a - ram_base))) → P Halt → ((reg : TimerReg) → P (Timer reg))
    → ((off : ℕ) → P (Plic off)) → ((reg : SerialReg) → P (Serial reg)) → P Nowhere → P (location_of size a w)
unfolding location_of
each_location P size a w ram halt timer plic serial nowhere =
    search (rules, cond_both, leb-true, and_parts, each_device)
