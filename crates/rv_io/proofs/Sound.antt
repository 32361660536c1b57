-- Whether a reader is sound.
use Rattle.std.proofs.Common.{◌≡◌, ◌<◌, ◌≤◌, ℕ, Bool, true, false, refl}
use Rattle.std.proofs.lemmas.Bool.{le-leb, lt-leb}
use Rattle.std.specs.Prelude.{◌&&◌, nat_le, not}

pub failed : (f : Bool) (n : ℕ) → f ≡ true → (not f && nat_le n 16777216) ≡ false
failed f n is = rw is refl

pub too_long : (f : Bool) (n : ℕ) → 16777216 < n → (not f && nat_le n 16777216) ≡ false
too_long true n over = refl
too_long false n over = lt-leb n 16777216 over

pub sound : (f : Bool) (n : ℕ) → n ≤ 16777216 → f ≡ false → (not f && nat_le n 16777216) ≡ true
sound f n within is = rw is (le-leb n 16777216 within)
