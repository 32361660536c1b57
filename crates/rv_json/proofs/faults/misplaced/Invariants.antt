use Rattle.std.proofs.Common.{◌≡◌, ◌≤◌, take}
use Rattle.std.specs.List.{count_by}
use Rattle.rv_json.specs.Json.{is_misplaced}
use Rattle.rv_json.proofs.faults.misplaced.Given as goal

abbrev pub invariant-loop-fault : goal.invariant-loop-fault
invariant-loop-fault l = record {
  counted : l.count ≡ count_by is_misplaced (take l.fault-index l.faults);
  most : l.count ≤ l.fault-index;
}
