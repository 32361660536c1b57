-- To audit: public contracts cite this.
-- The places of the C source that a source was made of, by the labels that tools/cc writes (this project's own:
-- docs/C.md).
use Rattle.std.specs.Prelude.{ℕ, ◌-◌, ◌&&◌, Bool, List, codes, filter, length, map, nat_eq, nat_lt, take}
use Rattle.std.specs.Char.{is_ascii_digit}
use Rattle.std.specs.List.{ends_with, suffix_len}

-- whether a label is that of such a place: a name, a dot and decimal digits
abbrev pub is_place : List ℕ → Bool
is_place label = let stem = take (length label - suffix_len is_ascii_digit label) label in
    nat_lt (length stem) (length label) && nat_lt 1 (length stem) && ends_with nat_eq stem (codes ".")

-- the addresses of those of some labels that are
abbrev pub marks_in : List (List ℕ × ℕ) → List ℕ
marks_in labels = map (λ l. l.1) (filter (λ l. is_place l.0) labels)
