-- The ends of a run, by its steps.
use Rattle.std.proofs.Common.{rules, ◌≡◌, ◌∙◌, ℕ, Bool, true, false, refl, ap, arith}
use Rattle.std.specs.Prelude.{is_none, Option, None}
use Rattle.rv_recording.specs.Refused.{NoneEnds}
use Rattle.rv_recording.specs.Support.Steps.{first_end}
use Rattle.rv_recording.specs.declared.until.End.{End}

-- where a run goes on
pub record GoesOn (h : Option ℕ) (m b l : Bool) : Type 0 where
  pub running : is_none h ≡ true
  pub unmet : m ≡ false
  pub unbroken : b ≡ false
  pub may : l ≡ true

pub going : (h : Option ℕ) (m b l : Bool) → first_end h m b l ≡ None → GoesOn h m b l
going h m b l e = search (rules, arith)

pub goes : (h : Option ℕ) (m b l : Bool) → h ≡ None → m ≡ false → b ≡ false → l ≡ true → first_end h m b l ≡ None
goes h m b l e f g k = rw (e, f, g, k) refl

pub first_none : (ends : ℕ → Option End) → ends 0 ≡ None → NoneEnds ends 1
first_none ends e i l = let same : i ≡ 0 = omega (arith, l) in ap ends same ∙ e
