use Rattle.std.proofs.Common.{◌≡◌, ◌≤◌, drop}
use Rattle.rv_base.specs.Numbers.{number_in}
use Rattle.rv_base.proofs.NumberReading.{rest_in}
use Rattle.rv_base.proofs.numbers.number_in.Given as goal

abbrev pub invariant-loop-b : goal.invariant-loop-b
invariant-loop-b l = record {
  small : l.sum ≤ l.most;
  rest : rest_in l.base l.most l.sum (drop l.b-index l.digits) ≡ number_in l.base l.most l.digits;
}
