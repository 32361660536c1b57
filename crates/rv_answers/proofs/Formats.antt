-- How memory is shown.
use Rattle.std.proofs.Common.{rules, ◌≡◌, ℕ, ◌≤◌, List, arith}
use Rattle.std.specs.Prelude.{IfSome, Option}
use Rattle.std.proofs.lemmas.Bool.Decides.{nat_tests}
use Rattle.rv_base.specs.Tables.{lookup}
use Rattle.rv_answers.specs.Memory.{extent}
use Rattle.rv_answers.specs.Support.Parts.{extent_by, formats}
use Rattle.rv_answers.specs.declared.extent.Extent.{Extent}

pub few : (word : List ℕ) → IfSome (lookup word formats) (λ f. f.1 ≤ 64)
unfolding formats
few word = search (rules, arith, nat_tests)

pub extent_told : (r : Option Extent) (ws : List (List ℕ)) → r ≡ extent_by ws → r ≡ extent ws
unfolding extent formats
extent_told r ws e = search (rules, arith, nat_tests)
