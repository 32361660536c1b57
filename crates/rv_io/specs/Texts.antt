-- The bytes that a reader gave and a writer took.
-- To audit: public contracts cite this.
use Rattle.std.specs.Prelude.{◌≡◌, ◌&&◌, ◌≤◌, ℕ, Bool, false, not, List, Option, length, nat_le}
use Rattle.std.specs.Option.{option_map, option_zip}
use Rattle.std.specs.Io.KnownBytes.{Appends, Consumes, IsAtEnd}
use Rattle.rv_base.specs.Limits.{text_limit}

-- a reader or a writer over a call: its known bytes before and after the call, and whether it has failed
-- after it
pub record Side : Type 0 where
  pub old : Option (List ℕ)
  pub new : Option (List ℕ)
  pub failed : Bool

-- the side of a type whose values tell their bytes and whether they have failed
abbrev pub side : {A : Type 0} → (A → Option (List ℕ)) → (A → Bool) → A → A → Side
side bytes has_failed old new = record { old = bytes old; new = bytes new; failed = has_failed new }

-- that side, if there is one
abbrev pub side_if : {A : Type 0} → (A → Option (List ℕ)) → (A → Bool) → Option A → Option A → Option Side
side_if bytes has_failed old new = option_map (λ p. side bytes has_failed p.0 p.1) (option_zip old new)

-- ---- a reader

-- whether the reader is sound: it gave bytes over the call, no more than a text may have, and has not failed
abbrev pub IsSound : Bool → Side → Type 0
IsSound sound r = (bytes : List ℕ) × Consumes r.old r.new bytes
    × ((not r.failed && nat_le (length bytes) text_limit) ≡ sound)

-- the reader gave the text to its end and did not fail
abbrev pub Gave : Side → List ℕ → Type 0
Gave r text = Consumes r.old r.new text × IsAtEnd r.new × (length text ≤ text_limit) × (r.failed ≡ false)

-- ---- a writer

-- the writer took these bytes, and failed or not
abbrev pub Wrote : Side → List ℕ → (failed : Bool) → Type 0
Wrote w bytes failed = Appends w.old w.new bytes × (w.failed ≡ failed)
