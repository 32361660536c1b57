-- What a diagnosis says of a fault.
-- To audit: public contracts cite this.
use Rattle.rv_program.specs.declared.fault.AsmFault.{AsmFault}
use Rattle.rv_diagnosis.specs.declared.diagnosis.Diagnosis.{Diagnosis}

-- the line of a diagnosis, counted from 1, and the kind of its fault
abbrev pub fault_of : Diagnosis → AsmFault
fault_of d = record { line = d.line; kind = d.kind }
