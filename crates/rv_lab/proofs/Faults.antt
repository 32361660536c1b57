-- The faults of a source, which are those of its listing, and of an opening are those of the lab.
use Rattle.std.proofs.Common.{rules, arith, ◌≡◌, ◌==◌, ℕ, List, Result, Ok, Err}
use Rattle.std.specs.Prelude.{MatchBool}
use Rattle.rv_asm.specs.Assembly.{assembled}
use Rattle.rv_asm.specs.Lines.{Listed, listed}
use Rattle.rv_program.specs.Faults.{title_of, Gives}
use Rattle.rv_program.specs.Program.{Assembly}
use Rattle.rv_program.specs.declared.fault.AsmFault.{AsmFault}
use Rattle.rv_program.specs.declared.fault.FaultKind.{FaultKind}
use Rattle.rv_monitor.specs.Opening.{Opens}
use Rattle.rv_monitor.specs.State.{SessionState}
use Rattle.rv_monitor.specs.declared.opening.OpenFault.{OpenFault}
use Rattle.rv_lab.specs.Faults.{source_fault, unopened_fault}
use Rattle.rv_lab.specs.Opening.{OpensBy, OpensLab}

-- ---- the program of a listing, or its fault, is that of its source

is_assembled : (source : List ℕ) (fault : AsmFault) → listed source ≡ Err fault → assembled source ≡ Err fault
unfolding listed
is_assembled source fault is = search (rules, arith)

pub made_of : (source : List ℕ) (l : Listed) → listed source ≡ Ok l → assembled source ≡ Ok l.assembly
unfolding listed
made_of source l is = search (rules, arith)

pub fails : (source : List ℕ) (fault : AsmFault) → Gives (λ l. l) (Err fault) (listed source)
    → Gives (λ p. p) (Err fault) (assembled source)
fails source fault h = search (rules, arith, is_assembled)

-- ---- the lab

module _ (source inputs : List ℕ) (pages slots : ℕ) where
  refused_by : (kind : FaultKind) (why : AsmFault)
      → MatchBool ((title_of kind).0 == 12) (why.line ≡ 0) (assembled source ≡ Err why)
      → OpensLab source inputs pages slots (Err (source_fault kind why))
  refused_by kind why h = search (rules, arith)

  -- a source that is not assembled
  pub source_refused : (why : AsmFault) → Gives (λ p. p) (Err why) (assembled source)
      → OpensLab source inputs pages slots (Err (source_fault why.kind why))
  source_refused why h = refused_by why.kind why h

  -- what the program opens is what the source opens
  pub opens_by : (program : Assembly) (p s : ℕ) (opened : Result SessionState OpenFault)
      → assembled source ≡ Ok program → p ≡ pages → s ≡ slots → Opens program inputs p s 9999999999 opened
      → OpensBy source inputs pages slots opened
  opens_by program p s opened is one two h = search (rules, arith)

  -- a program that opens no session
  pub opening_refused : (why : OpenFault) → OpensBy source inputs pages slots (Err why)
      → OpensLab source inputs pages slots (Err (unopened_fault why))
  opening_refused why h = search (rules, arith)
