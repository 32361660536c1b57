use Rattle.std.proofs.Common.{◌≡◌, ◌++◌, drop, map}
use Rattle.rv_diagnosis.specs.Diagnosed.{fault_of}
use Rattle.rv_json.specs.Json.{kind_at}
use Rattle.rv_json.proofs.rejected.faults_in.Given as goal

abbrev pub invariant-loop-diagnosis : goal.invariant-loop-diagnosis
invariant-loop-diagnosis l = map kind_at l.faults.items ++ map fault_of (drop l.diagnosis-index l.diagnosis-items) ≡ map fault_of l.diagnosis-items
