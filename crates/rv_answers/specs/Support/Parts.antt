-- Not to audit: private contracts and proofs alone cite this.
-- How memory is shown, as the code reads it.
use Rattle.std.specs.Prelude.{ℕ, List, [], ◌∷◌, codes, drop, if◌then◌else◌, slice_get, Option, Some, None, is_some, option_and_then, unwrap_or}
use Rattle.std.specs.Option.{option_map}
use Rattle.rv_base.specs.Numbers.{number_in}
use Rattle.rv_base.specs.Tables.{lookup}
use Rattle.rv_answers.specs.declared.extent.Extent.{Extent}
use Rattle.rv_answers.specs.declared.extent.Format.{Format}
use Rattle.rv_answers.specs.declared.extent.Format.TheVariants.{Bytes, Words, Text}

unfoldable pub formats : List (List ℕ × (Format × ℕ))
formats = (codes "w", (Words, 16)) ∷ (codes "t", (Text, 64)) ∷ (codes "b", (Bytes, 64)) ∷ []

-- how memory is shown, by the only word, or as bytes
abbrev pub format_of : List (List ℕ) → Option (Format × ℕ)
format_of [] = Some (Bytes, 64)
format_of (word ∷ []) = lookup word formats
format_of _ = None

-- how many, and how
abbrev pub extent_by : List (List ℕ) → Option Extent
extent_by words =
    let n = option_and_then (number_in 10 4096) (slice_get words 0) in
    option_map (λ f. record { count = unwrap_or n f.1; format = f.0 })
    (format_of (if is_some n then drop 1 words else words))
