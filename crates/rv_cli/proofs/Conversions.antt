-- The faults of a run are those that its texts mean.
use Rattle.std.proofs.Common.{rules, arith, ◌≡◌, ◌∙◌, ℕ, List, Ok, Err, ap, sym}
use Rattle.std.specs.Prelude.{◌≢◌}
use Rattle.rv_asm.specs.Assembly.{assembled}
use Rattle.rv_monitor.specs.State.{SessionState}
use Rattle.rv_monitor.specs.declared.opening.OpenFault.{OpenFault}
use Rattle.rv_monitor.specs.Opening.{Opens}
use Rattle.rv_program.specs.Faults.{Gives}
use Rattle.rv_program.specs.Program.{Assembly}
use Rattle.rv_program.specs.declared.fault.AsmFault.{AsmFault}
use Rattle.rv_io.specs.Support.Calls.{Texts}
use Rattle.rv_io.specs.declared.fault.ReadFault.{ReadFault}
use Rattle.rv_io.specs.declared.fault.ReadFault.TheVariants as read
use Rattle.rv_io.specs.declared.fault.TextName.TheVariants as text
use Rattle.rv_options.specs.declared.Options.{Options}
use Rattle.rv_cli.specs.Conversions.{source_fault, unopened_fault, unread_fault}
use Rattle.rv_cli.specs.Support.Meanings.{IsRunOf}
use Rattle.rv_cli.specs.Output.{IsOutput, OpensFor}
use Rattle.rv_cli.specs.declared.fault.CliFault.TheVariants.{OutOfMemory, ReadInput, ReadSource}
use Rattle.rv_cli.specs.declared.fault.Ending.{Ending}

-- ---- texts that were not read

pub is_source : (why : ReadFault) → unread_fault why ≡ ReadSource → why ≡ read.Unreadable text.Source
is_source why e = search (rules, arith)

pub is_input : (why : ReadFault) → unread_fault why ≡ ReadInput → why ≡ read.Unreadable text.Input
is_input why e = search (rules, arith)

-- ---- texts that open no session

pub source_refused : (texts : Texts) (options : Options) (source : List ℕ) (why : AsmFault)
    → source ≡ texts.source → Gives (λ p. p) (Err why) (assembled source) → source_fault why.kind why ≢ OutOfMemory
    → IsOutput texts options (Err (source_fault why.kind why))
source_refused texts options source why same h kept = search (rules, arith)

opening_meant : (texts : Texts) (options : Options) (why : OpenFault) → OpensFor texts options (Err why)
    → unopened_fault why ≢ OutOfMemory → IsOutput texts options (Err (unopened_fault why))
opening_meant texts options why h kept = search (rules, arith)

pub opening_refused : (texts : Texts) (options : Options) (source list : List ℕ) (program : Assembly)
    (pages slots limit : ℕ) (why : OpenFault) → source ≡ texts.source → list ≡ texts.inputs
    → pages ≡ options.pages → slots ≡ options.slots → limit ≡ options.steps
    → assembled source ≡ Ok program → Opens program list pages slots limit (Err why)
    → unopened_fault why ≢ OutOfMemory → IsOutput texts options (Err (unopened_fault why))
opening_refused texts options source list program pages slots limit why one two three four five made h kept =
    opening_meant texts options why (program, ap assembled (sym one) ∙ made, search (rules, arith)) kept

-- ---- texts that open a session

pub run_ends : (texts : Texts) (options : Options) (first : SessionState) (result : List ℕ × Ending)
    → OpensFor texts options (Ok first) → IsRunOf texts.commands first result
    → IsOutput texts options (Ok result)
run_ends texts options first result opens run =
    (first, run.last, run.answers, opens, run.done, ap (λ d. d.0) run.is, ap (λ d. d.1) run.is)
