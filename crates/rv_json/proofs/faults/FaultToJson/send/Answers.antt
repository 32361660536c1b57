use Rattle.rv_json.specs.Json.{fault_data, fault_name, fault_number}
use Rattle.rv_json.proofs.faults.FaultToJson.send.Goals as goal

pub returns : goal.returns
unfolding fault_data fault_name fault_number
returns g c = rw (c.number.ensures, c.name.ensures) at c.send.ensures
