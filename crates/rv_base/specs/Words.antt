-- To audit: public contracts cite this.
-- The words of a line.
use Rattle.std.specs.Prelude.{ℕ, ◌||◌, Bool, List, length, filter, ◌==◌, nat_lt, slice_index}
use Rattle.std.specs.List.{slice_split}

-- a space or a tab
abbrev pub is_blank : ℕ → Bool
is_blank b = (b == 32) || (b == 9)

-- the runs of bytes other than blanks
unfoldable pub words : List ℕ → List (List ℕ)
words line = filter (λ word. nat_lt 0 (length word)) (slice_split is_blank line)

-- `#` at its front
abbrev pub begins_comment : List ℕ → Bool
begins_comment word = slice_index word 0 == 35
