-- To audit: public contracts cite this.
-- How much of memory `m` of the lab shows, and what stands for bytes in a string (this project's own: docs/LAB.md).
use Rattle.std.specs.Prelude.{ℕ, List, [], ◌∷◌, codes, drop, if◌then◌else◌, length, nat_lt, slice_get, slice_index_or, Option, None, is_some, option_and_then, unwrap_or}
use Rattle.std.specs.Option.{option_map}
use Rattle.rv_base.specs.Numbers.{number_in}
use Rattle.rv_base.specs.Tables.{lookup}
use Rattle.rv_answers.specs.declared.extent.Extent.{Extent}
use Rattle.rv_answers.specs.declared.extent.Format.{Format}
use Rattle.rv_answers.specs.declared.extent.Format.TheVariants.{Bytes, Words, Text}

-- what stands for a byte after a backslash
unfoldable pub escapes : List (List ℕ × ℕ)
escapes =
    (codes "n", 10) ∷ (codes "r", 13) ∷ (codes "t", 9) ∷ (codes "0", 0) ∷ (codes "\"", 34) ∷ (codes "\\", 92) ∷ []

-- how many, and how, by the words that follow WHERE: a number may come first, and then how memory is shown, as
-- bytes without a word, with how many bytes or words where no number is given
unfoldable pub extent : List (List ℕ) → Option Extent
extent words =
    let n = option_and_then (number_in 10 4096) (slice_get words 0) in
    let how = if is_some n then drop 1 words else words in
    option_map (λ (f : Format × ℕ). record { count = unwrap_or n f.1; format = f.0 })
    (if nat_lt 1 (length how) then None else lookup (slice_index_or how 0 (codes "b"))
    ((codes "w", (Words, 16)) ∷ (codes "t", (Text, 64)) ∷ (codes "b", (Bytes, 64)) ∷ []))
