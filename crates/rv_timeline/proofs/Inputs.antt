-- Inputs following others.
use Rattle.std.proofs.Common.{rules, ◌≡◌, ℕ, ◌-◌, ◌<◌, true, false, List, [], ◌∷◌, ◌++◌, length, get_or, refl, ap, arith, append-nil, append_assoc}
use Rattle.std.proofs.lemmas.Bool.{and_parts, le-leb, lt-leb, ltb-true, ltb-false}
use Rattle.std.proofs.Math.Bool.{and-true}
use Rattle.std.specs.Prelude.{Option, Some, None, IfSome, nat_le, nat_lt}
use Rattle.std.specs.Option.{option_map}
use Rattle.rv_timeline.specs.declared.input.Input.{Input}
use Rattle.rv_timeline.specs.declared.input.Input.TheVariants.{Rx}
use Rattle.rv_timeline.specs.declared.input.TimedInput.{TimedInput}
use Rattle.rv_base.specs.Numbers.{hex_byte}
use Rattle.rv_timeline.specs.Timed.{all_of, byte_input, received, inputs_of, at_step, never_falls}
use Rattle.rv_timeline.specs.Support.Reading.{latest_step, with_inputs, with_line}

pub latest_is : (xs : List TimedInput) (d : TimedInput) → 0 < length xs
    → (get_or xs (length xs - 1) d).step ≡ latest_step xs
latest_is (x ∷ y ∷ more) d h = search (rules, arith, latest_is (y ∷ more) d)
latest_is xs d h = search (rules, arith)

-- ---- the bytes of a line

pub received_all : (ws : List (List ℕ)) → nat_lt 0 (length ws) ≡ true → all_of byte_input ws ≡ received ws
received_all ws h = search (rules, arith)

pub received_none : (ws : List (List ℕ)) → nat_lt 0 (length ws) ≡ false → received ws ≡ None
received_none ws h = search (rules, arith)

pub received_more : (before : List TimedInput) (step b : ℕ) (w : List ℕ) (ws words : List (List ℕ))
    → words ≡ w ∷ ws → hex_byte w ≡ Some b
    → with_inputs (before ++ record { step = step; input = Rx b } ∷ []) step (all_of byte_input ws)
    ≡ with_inputs before step (all_of byte_input words)
unfolding all_of
received_more before step b w ws words e is = search (rules, arith, append_assoc)

pub received_bad : (w : List ℕ) (ws : List (List ℕ)) → hex_byte w ≡ None → all_of byte_input (w ∷ ws) ≡ None
unfolding all_of
received_bad w ws is = rw is refl

pub received_end : (before : List TimedInput) (step : ℕ) (words : List (List ℕ)) → words ≡ []
    → with_inputs before step (all_of byte_input words) ≡ Some before
unfolding all_of
received_end before step words e = rw e (ap (λ x. Some x) (append-nil before))

-- ---- the inputs of one step, following others

-- a line that can be read has an input
abbrev HasSome : Option (List Input) → Type 0
HasSome inputs = IfSome inputs (λ is. 0 < length is)

at_once : (step : ℕ) (is : List Input) → never_falls (at_step step is) ≡ true
unfolding never_falls
at_once step (i ∷ j ∷ is) = rw (le-leb step step (omega arith)) (at_once step (j ∷ is))
at_once step is = search (rules, arith)

-- whether the steps fall depends only on the last input before and the first input after
falls_between : (before : List TimedInput) (step : ℕ) (i : Input) (is : List Input)
    → never_falls before ≡ true → never_falls (before ++ at_step step (i ∷ is)) ≡ nat_le (latest_step before) step
unfolding never_falls
falls_between (x ∷ y ∷ more) step i is h = search (rules, arith, and_parts, falls_between (y ∷ more) step i is)
falls_between before step i is h = search (rules, arith, at_once, le-leb, and-true)

pub with_line-nothing : (before : List TimedInput) (r : Option (List TimedInput)) → never_falls before ≡ true
    → r ≡ Some [] → with_line before r ≡ Some before
with_line-nothing before r h e = rw (e, append-nil, h) refl

module _ (before : List TimedInput) (rising : never_falls before ≡ true) (step : ℕ) where
  pub with_line-step : nat_lt step (latest_step before) ≡ false → (r : Option (List Input))
      → HasSome r → with_line before (option_map (at_step step) r) ≡ with_inputs before step r
  with_line-step le (Some (i ∷ is)) some = search (rules, arith, falls_between, le-leb, ltb-false)
  with_line-step le r some = search (rules, arith)

  pub with_line-fallen : nat_lt step (latest_step before) ≡ true → (r : Option (List Input))
      → HasSome r → with_line before (option_map (at_step step) r) ≡ None
  with_line-fallen lt (Some (i ∷ is)) some = search (rules, arith, falls_between, lt-leb, ltb-true)
  with_line-fallen lt r some = search (rules, arith)

-- ---- a timed line has an input

pub inputs_some : (ws : List (List ℕ)) → HasSome (inputs_of ws)
unfolding inputs_of all_of
inputs_some ws = search (rules, arith)

pub ruleset line_steps = (with_line-nothing, with_line-step, with_line-fallen, inputs_some)
