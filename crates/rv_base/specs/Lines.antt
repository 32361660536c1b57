-- The lines of a text.
-- To audit: public contracts cite this.
use Rattle.std.specs.Prelude.{ℕ, List, [], ◌∷◌, map, if◌then◌else◌, ◌==◌}
use Rattle.std.specs.List.{onto_first}
use Rattle.std.specs.Str.Lines.{strip_carriage_return}

-- A line ends at a LF. The bytes after the last LF are a line if there are any.
unfoldable pub split : List ℕ → List (List ℕ)
split [] = []
split (b ∷ bs) = if b == 10 then [] ∷ split bs else onto_first b (split bs)

-- the lines of a text, each without its LF and without a CR before it
abbrev pub lines : List ℕ → List (List ℕ)
lines text = map strip_carriage_return (split text)
