use Rattle.std.proofs.Common.{◌≡◌, ◌+◌, length}
use Rattle.rv_convention.specs.Profile.{place_for}
use Rattle.rv_convention.proofs.rows.place_for.Given as goal

abbrev pub invariant-loop-left : goal.invariant-loop-left
invariant-loop-left l = record {
  place : l.place + place_for l.left l.steps ≡ place_for l.rows l.steps;
  count : l.place + length l.left ≡ length l.rows;
}

abbrev pub decreases-loop-left : goal.decreases-loop-left
decreases-loop-left l = length l.left
