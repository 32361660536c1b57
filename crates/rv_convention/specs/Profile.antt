-- To audit: public contracts cite this.
-- Where the steps of a run were spent, by lines and by functions (this project's own: docs/LAB.md).
use Rattle.std.specs.Prelude.{ℕ, ◌+◌, ◌-◌, ◌&&◌, ◌||◌, Bool, true, false, List, [], ◌∷◌, drop, filter_map, fold, get_or, if◌then◌else◌, insert, is_some, length, map, nat_le, nat_lt, not, sum_by, take_while, Option, None}
use Rattle.std.specs.List.{count_by, list_any, position_or_len, range_with_len}
use Rattle.std.specs.Option.{option_map}
use Rattle.rv_asm.specs.Lines.{Listed, address_of}
use Rattle.rv_monitor.specs.State.{TimedState}
use Rattle.rv_recording.specs.Recording.{RecordingState}
use Rattle.rv_answers.specs.declared.profile.Profiled.{Profiled}
use Rattle.rv_answers.specs.declared.profile.Spent.{Spent}
use Rattle.rv_why.specs.Taken.{first_state}
use Rattle.rv_convention.specs.Convention.{Moment, moments, turn_of}
use Rattle.rv_convention.specs.declared.rows.Part.{Part}
use Rattle.rv_convention.specs.declared.rows.Part.TheVariants.{Line, Function}
use Rattle.rv_convention.specs.declared.tally.Tallied.{Tallied}
use Rattle.rv_convention.specs.declared.turn.Turn.{Turn}
use Rattle.rv_convention.specs.declared.turn.Turn.TheVariants.{Enters}

-- the byte at an address is one of line n
abbrev pub is_in : Listed → (n a : ℕ) → Bool
is_in l n a = nat_le (get_or l.addresses (n - 1) 0) a && nat_lt a (get_or l.addresses n 0)

-- how many of some steps began in line n
abbrev pub steps_in : Listed → List Moment → (n : ℕ) → ℕ
steps_in l ms n = count_by (λ (m : Moment). is_in l n m.before.machine.pc) ms

-- a function or a handler begins in line n: a step of a run enters it there, or the run begins there
abbrev pub is_entry : Turn → Bool
is_entry (Enters entry) = true
is_entry turn = false

abbrev pub enters : Listed → (n : ℕ) → Moment → Bool
enters l n m = is_entry (turn_of m.before m.did) && is_in l n m.now.machine.pc

abbrev pub begins_in : Listed → TimedState → List Moment → (n : ℕ) → Bool
begins_in l s ms n = is_in l n s.board.machine.pc || list_any (enters l n) ms

-- the lines of a source, with what the steps of a run from a state on did in each
unfoldable pub tallied : Listed → TimedState → List Moment → List Tallied
tallied l s ms = map (λ n. record { steps = steps_in l ms n; begins = begins_in l s ms n })
    (range_with_len 1 (length l.addresses - 1))

-- the steps of the first of some lines, or of the function that begins with it: those in its lines, up to the next
unfoldable pub part_steps : Part → List Tallied → ℕ
part_steps part [] = 0
part_steps Line (t ∷ more) = t.steps
part_steps Function (t ∷ more) =
    if t.begins then t.steps + sum_by (λ (u : Tallied). u.steps) (take_while (λ (u : Tallied). not u.begins) more) else 0

-- what is told of line n, in which some steps were spent
abbrev pub row_of : Listed → (n steps : ℕ) → Option Spent
row_of l n steps = if nat_lt 0 steps
    then option_map (λ a. record { line = n; address = a; steps = steps }) (address_of l n) else None

-- one more among those that are told, which come by their steps, the most first, and then by their lines
abbrev pub place_for : List Spent → (steps : ℕ) → ℕ
place_for rows steps = position_or_len (λ (r : Spent). nat_lt r.steps steps) rows

unfoldable pub placed : List Spent → Spent → List Spent
placed rows row = insert rows (place_for rows row.steps) row

unfoldable pub told : Listed → List Tallied → Part → List Spent
told l lines part =
    fold placed [] (filter_map (λ k. row_of l (k + 1) (part_steps part (drop k lines))) (range_with_len 0 (length lines)))

-- where the first n steps of a recording were spent, also of those that weren't taken yet
unfoldable pub profiled : Listed → RecordingState → ℕ → Profiled
profiled l r n =
    let s = first_state r in let ms = moments n s in let lines = tallied l s ms in record {
      steps = length ms;
      has_halted = list_any (λ (m : Moment). is_some m.now.machine.bus.halt) ms;
      lines = told l lines Line;
      functions = told l lines Function;
    }
