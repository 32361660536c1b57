-- To audit: public contracts cite this.
-- The text of an answer.
use Rattle.std.specs.Prelude.{◌≡◌, ℕ, Bool, false, List, ◌++◌}

-- the bytes, and whether a piece is missing at their end
pub record Written : Type 0 where
  pub bytes : List ℕ
  pub is_cut : Bool

-- a piece was appended: an answer in which nothing is missing now had nothing missing before, and has the
-- piece at its end
pub record Appended (old new : Written) (piece : List ℕ) : Type 0 where
  pub whole : new.is_cut ≡ false → old.is_cut ≡ false
  pub bytes : new.is_cut ≡ false → new.bytes ≡ old.bytes ++ piece
