-- How far a reader is read: that a text is too long shows once a buffer of it was read.
-- To audit: public contracts cite this.
use Rattle.std.specs.Prelude.{◌+◌, ◌≤◌, ℕ, List, IfSome, length}
use Rattle.std.specs.Io.KnownBytes.{Consumes}
use Rattle.rv_base.specs.Limits.{text_limit}
use Rattle.rv_io.specs.Readers.{EachText}
use Rattle.rv_io.specs.Texts.{Side}

-- the reader gave no more bytes than a text may have and a buffer of 8192 bytes has
abbrev pub IsWithin : Side → Type 0
IsWithin r = (bytes : List ℕ) × Consumes r.old r.new bytes × (length bytes ≤ text_limit + 8192)

-- each reader gave no more
pub record AreWithin (r : EachText Side) : Type 0 where
  pub source : IsWithin r.source
  pub inputs : IsWithin r.inputs
  pub commands : IfSome r.commands IsWithin
