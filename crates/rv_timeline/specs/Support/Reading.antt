-- Not to audit: private contracts alone cite this.
-- Reading a timed list, line by line, and writing one.
use Rattle.std.specs.Prelude.{◌≡◌, ℕ, ◌<◌, ◌&&◌, Bool, true, false, nat_le, nat_lt, List, [], ◌∷◌, ◌++◌, take, if◌then◌else◌, Option, Some, None, is_some, codes, decimal, option_and_then}
use Rattle.std.specs.Option.{option_map}
use Rattle.std.specs.List.{list_all}
use Rattle.rv_timeline.specs.declared.input.Input.{Input}
use Rattle.rv_timeline.specs.declared.input.Input.TheVariants.{Rx, Line}
use Rattle.rv_timeline.specs.declared.input.TimedInput.{TimedInput}
use Rattle.rv_base.specs.Numbers.{number_in}
use Rattle.rv_base.specs.Tables.{lookup}
use Rattle.rv_timeline.specs.Text.{input_text}
use Rattle.rv_timeline.specs.Timed.{at_step, never_falls, timed}

-- no step has more than ten digits
abbrev pub HasSteps : List TimedInput → Type 0
HasSteps xs = list_all (λ x. nat_le x.step 9999999999) xs ≡ true

-- N of `line`, and V
abbrev pub source_of : List ℕ → Option ℕ
source_of word = option_and_then (λ n. if nat_le 1 n then Some n else None) (number_in 10 31 word)

abbrev pub level_of : List ℕ → Option Bool
level_of word = lookup word ((codes "0", false) ∷ (codes "1", true) ∷ [])

-- the first n lines have no list, and any fewer of them have one
abbrev pub IsFirstRefused : List (List ℕ) → ℕ → Type 0
IsFirstRefused texts n =
    (timed (take n texts) ≡ None) × ((k : ℕ) → k < n → is_some (timed (take k texts)) ≡ true)

-- the line of an input, with its line end
abbrev pub line_text : TimedInput → List ℕ
line_text x = decimal x.step ++ codes " " ++ input_text x.input ++ codes "\n"

-- one list followed by the other, if there are both
abbrev pub joined : {B : Type 0} → Option (List B) → Option (List B) → Option (List B)
joined a b = option_and_then (λ xs. option_map (λ ys. xs ++ ys) b) a

-- inputs, unless a step falls
abbrev pub unless_falling : List TimedInput → Option (List TimedInput)
unless_falling inputs = if never_falls inputs then Some inputs else None

-- the step of the last input, or 0 if there is none
abbrev pub latest_step : List TimedInput → ℕ
latest_step [] = 0
latest_step (x ∷ []) = x.step
latest_step (x ∷ y ∷ more) = latest_step (y ∷ more)

-- what a call that can read its words leaves is what is meant; of words that it can't read nothing is meant
abbrev pub Leaves : {B : Type 0} → B → Bool → Option B → Type 0
Leaves new true meaning = meaning ≡ Some new
Leaves new false meaning = meaning ≡ None

-- the inputs of one step, following others
abbrev pub with_inputs : List TimedInput → ℕ → Option (List Input) → Option (List TimedInput)
with_inputs before step inputs = option_map (λ is. before ++ at_step step is) inputs

-- the inputs of a line, following others, unless a step falls
abbrev pub with_line : List TimedInput → Option (List TimedInput) → Option (List TimedInput)
with_line before said = option_and_then (λ inputs. unless_falling (before ++ inputs)) said

-- ---- the ranges of an input's fields, as they are written

abbrev pub is_input : Input → Bool
is_input (Rx byte) = nat_lt byte 256
is_input (Line source high) = nat_lt 0 source && nat_lt source 32
