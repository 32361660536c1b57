-- To audit: public contracts cite this.
-- The text of a timed list.
use Rattle.std.specs.Prelude.{ℕ, List, ◌++◌, if◌then◌else◌, codes, decimal}
use Rattle.std.specs.List.{flat_map}
use Rattle.rv_base.specs.Digits.{hex}
use Rattle.rv_timeline.specs.declared.input.Input.{Input}
use Rattle.rv_timeline.specs.declared.input.Input.TheVariants.{Rx, Line}
use Rattle.rv_timeline.specs.declared.input.TimedInput.{TimedInput}

-- an input, as it stands after its step
abbrev pub input_text : Input → List ℕ
input_text (Rx byte) = codes "rx " ++ hex 2 byte
input_text (Line n high) = codes "line " ++ decimal n ++ codes " " ++ (if high then codes "1" else codes "0")

-- a line for each input
unfoldable pub list_text : List TimedInput → List ℕ
list_text inputs = flat_map (λ x. decimal x.step ++ codes " " ++ input_text x.input ++ codes "\n") inputs
