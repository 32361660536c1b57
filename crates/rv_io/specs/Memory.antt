-- Readers and writers over memory and over the standard library.
-- To audit: public contracts cite this.
use Rattle.std.specs.Prelude.{ℕ, Bool, List, Option, Some, None, zero, suc}

-- a reader or a writer over memory: its bytes (those left to a reader, those written to a writer), the most
-- that a call moves, the good calls before one that fails if there is such a call, and whether a call has
-- failed
pub record MemoryText : Type 0 where
  pub bytes : List ℕ
  pub most : ℕ
  pub good_calls : Option ℕ
  pub has_failed : Bool

abbrev pub text_of : List ℕ → ℕ → Option ℕ → Bool → MemoryText
text_of bytes most calls failed = record { bytes = bytes; most = most; good_calls = calls; has_failed = failed }

-- the good calls that are left after a call, which are no longer counted after the one that fails
abbrev pub after_call : Option ℕ → Option ℕ
after_call None = None
after_call (Some zero) = None
after_call (Some (suc calls)) = Some calls

-- a reader or a writer of the standard library: its bytes, where it tells them, and whether a call has failed
pub record FileText : Type 0 where
  pub bytes : Option (List ℕ)
  pub has_failed : Bool
