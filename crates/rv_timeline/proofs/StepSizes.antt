-- The steps of a list that was read have ten digits at most.
use Rattle.std.proofs.lemmas.Bool.Decides.{nat_tests}
use Rattle.std.proofs.lemmas.Grind.{common_steps}
use Rattle.std.proofs.Common.{arith, rules, ◌≡◌, ℕ, true, List, [], ◌∷◌, refl}
use Rattle.std.proofs.lemmas.Bool.{and_from}
use Rattle.std.proofs.lemmas.List.Folds.{list_all-append}
use Rattle.std.specs.Prelude.{Some, nat_le}
use Rattle.rv_base.specs.Numbers.{number_in}
use Rattle.rv_timeline.specs.declared.input.Input.{Input}
use Rattle.rv_timeline.specs.declared.input.TimedInput.{TimedInput}
use Rattle.rv_timeline.proofs.Whole.{listed}
use Rattle.rv_timeline.specs.Support.Reading.{HasSteps}
use Rattle.rv_timeline.specs.Timed.{at_step, all_of, step_of, timed_line, timed}

at_small : (step : ℕ) (is : List Input) → nat_le step 9999999999 ≡ true → HasSteps (at_step step is)
at_small step [] h = refl
at_small step (i ∷ is) h = grind (arith, nat_tests, common_steps, and_from, at_small step is h)

said_small : (line : List ℕ) (xs : List TimedInput) → timed_line line ≡ Some xs → HasSteps xs
unfolding timed_line step_of number_in
said_small line xs h = search (rules, arith, at_small)

all_small : (texts : List (List ℕ)) (xs : List TimedInput) → all_of timed_line texts ≡ Some xs → HasSteps xs
unfolding all_of
all_small [] xs h = search (rules, arith)
all_small (t ∷ ts) xs h = search (rules, arith, list_all-append, and_from, said_small, all_small ts)

pub steps_small : (texts : List (List ℕ)) (xs : List TimedInput) → timed texts ≡ Some xs → HasSteps xs
steps_small texts xs h = all_small texts xs (listed texts xs h).0
