-- The diagnoses of a source, line by line.
-- Not to audit: private contracts alone cite this.
use Rattle.std.specs.Prelude.{◌≡◌, ℕ, ◌+◌, ◌-◌, ◌≤◌, ◌<◌, ◌==◌, List, [], ◌∷◌, ◌++◌, length, slice_get, Option, Some, None, if◌then◌else◌, IfSome}
use Rattle.std.specs.Option.{option_map}
use Rattle.rv_program.specs.declared.fault.AsmFault.{AsmFault}
use Rattle.rv_diagnosis.specs.declared.diagnosis.Diagnosis.{Diagnosis}
use Rattle.rv_diagnosis.specs.Diagnosed.{fault_of}

-- a fault, if it is one of a line, counted from 1
abbrev pub on_line : ℕ → Option AsmFault → Option AsmFault
on_line n None = None
on_line n (Some fault) = if fault.line == n then Some fault else None

-- a diagnosis, if there is one
abbrev pub listed : Option Diagnosis → List Diagnosis
listed None = []
listed (Some d) = d ∷ []

-- line n, which has this text, is diagnosed, if the first fault that isn't diagnosed yet is its
pub record Diagnoses (n : ℕ) (text : List ℕ) (faults : List AsmFault) (old new : List Diagnosis) : Type 0 where
  pub found : Option Diagnosis
  pub finds : option_map fault_of found ≡ on_line n (slice_get faults (length old))
  pub appends : new ≡ old ++ listed found
  pub line : IfSome found (λ d. d.line ≡ n)
  pub from : IfSome found (λ d. 0 < d.column)
  pub to : IfSome found (λ d. d.column - 1 + d.length ≤ length text)
