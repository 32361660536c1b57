-- Not to audit: private contracts alone cite this.
-- The first breakpoint from an address on, as the code finds it.
use Rattle.std.specs.Prelude.{ℕ, if◌then◌else◌, min, nat_lt, Option, Some, None}

-- the lesser of an address, if it is at `from` or above it, and the least so far
abbrev pub lesser : Option ℕ → ℕ → Option ℕ
lesser None a = Some a
lesser (Some b) a = Some (min b a)

abbrev pub nearer : ℕ → Option ℕ → ℕ → Option ℕ
nearer from least a = if nat_lt a from then least else lesser least a
