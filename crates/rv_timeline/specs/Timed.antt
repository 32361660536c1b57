-- To audit: public contracts cite this.
-- Timed lists: the inputs of a text, or its first refused line. None stands for a text that can't be read.
-- The language is this project's own: docs/MONITOR.md.
use Rattle.std.specs.Prelude.{◌≡◌, ℕ, ◌<◌, ◌&&◌, Bool, true, false, List, [], ◌∷◌, ◌++◌, length, map, take, if◌then◌else◌, nat_le, nat_lt, Option, Some, None, Result, Ok, Err, codes, option_and_then, is_some, unwrap_or}
use Rattle.std.specs.Option.{option_map, option_zip}
use Rattle.rv_base.specs.Limits.{line_limit}
use Rattle.rv_base.specs.Lines.{lines}
use Rattle.rv_base.specs.Tables.{lookup}
use Rattle.rv_timeline.specs.declared.input.Input.{Input}
use Rattle.rv_timeline.specs.declared.input.Input.TheVariants.{Rx, Line}
use Rattle.rv_timeline.specs.declared.input.TimedInput.{TimedInput}
use Rattle.rv_timeline.specs.declared.fault.TimelineFault.{TimelineFault}
use Rattle.rv_timeline.specs.declared.fault.TimelineFault.TheVariants.{BadLine, OutOfMemory}
use Rattle.rv_base.specs.Numbers.{number_in, hex_byte}
use Rattle.rv_base.specs.Words.{words, begins_comment}

-- the meanings of all parts, one after another, if each has one
unfoldable pub all_of : {A B : Type 0} → (A → Option (List B)) → List A → Option (List B)
all_of meaning [] = Some []
all_of meaning (x ∷ xs) = option_and_then (λ ys. option_map (λ zs. ys ++ zs) (all_of meaning xs)) (meaning x)

-- ---- the inputs of a line

-- STEP: one to ten decimal digits
unfoldable pub step_of : List ℕ → Option ℕ
step_of word = if nat_le (length word) 10 then number_in 10 9999999999 word else None

-- HH: a byte that the serial port receives
abbrev pub byte_input : List ℕ → Option (List Input)
byte_input word = option_map (λ b. Rx b ∷ []) (hex_byte word)

-- the words following `rx`: a byte each, at least one
abbrev pub received : List (List ℕ) → Option (List Input)
received [] = None
received (word ∷ more) = all_of byte_input (word ∷ more)

-- the words following `line`: N, a source from 1 to 31 in decimal, and V, 0 for low or 1 for high
abbrev pub driven : List (List ℕ) → Option (List Input)
driven (n ∷ v ∷ []) =
    let source = option_and_then (λ n. if nat_le 1 n then Some n else None) (number_in 10 31 n) in
    let level = lookup v ((codes "0", false) ∷ (codes "1", true) ∷ []) in
    option_map (λ line. Line line.0 line.1 ∷ []) (option_zip source level)
driven _ = None

-- the inputs of the words following STEP: a kind, and what the words following it may be
unfoldable pub inputs_of : List (List ℕ) → Option (List Input)
inputs_of [] = None
inputs_of (kind ∷ more) =
    unwrap_or (lookup kind ((codes "rx", received more) ∷ (codes "line", driven more) ∷ [])) None

-- inputs, all at one step
abbrev pub at_step : ℕ → List Input → List TimedInput
at_step step inputs = map (λ input. record { step = step; input = input }) inputs

-- the inputs of a line by its words: none if it is blank or a comment
abbrev pub timed_words : List (List ℕ) → Option (List TimedInput)
timed_words [] = Some []
timed_words (word ∷ more) =
    if begins_comment word then Some []
    else option_and_then (λ step. option_map (at_step step) (inputs_of more)) (step_of word)

-- the inputs of a line; a line of more than 1,024 bytes is refused whatever it says
unfoldable pub timed_line : List ℕ → Option (List TimedInput)
timed_line line = if nat_lt line_limit (length line) then None else timed_words (words line)

-- ---- the inputs of a text

-- whether no step is below the one before it
unfoldable pub never_falls : List TimedInput → Bool
never_falls (x ∷ y ∷ more) = nat_le x.step y.step && never_falls (y ∷ more)
never_falls _ = true

-- the inputs of all lines, in order, if each line can be read and no step falls
unfoldable pub timed : List (List ℕ) → Option (List TimedInput)
timed texts = option_and_then (λ xs. if never_falls xs then Some xs else None) (all_of timed_line texts)

-- a list with one input more: after all others of its step, and before the first later one
unfoldable pub inserted : List TimedInput → TimedInput → List TimedInput
inserted [] x = x ∷ []
inserted (y ∷ ys) x = if nat_lt x.step y.step then x ∷ y ∷ ys else y ∷ inserted ys x

-- a text is read: the result is its list, its first refused line, or out of memory. Line n, counted from 1,
-- is the first refused: the first n lines have no list, and any fewer of them have one. So there is a line n,
-- since all lines and no line at all are neither refused nor fewer.
abbrev pub IsRead : List ℕ → Result (List TimedInput) TimelineFault → Type 0
IsRead text (Ok inputs) = timed (lines text) ≡ Some inputs
IsRead text (Err (BadLine n)) =
    (timed (take n (lines text)) ≡ None) × ((k : ℕ) → k < n → is_some (timed (take k (lines text))) ≡ true)
IsRead text (Err OutOfMemory) = Unit {0}
