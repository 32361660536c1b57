-- The results of a run, by those of its parts and by what the texts mean.
use Rattle.std.proofs.Common.{rules, arith, ◌≡◌, Ok, Err}
use Rattle.std.specs.Prelude.{◌≢◌, ℕ, false, IsErrAnd, List, Result}
use Rattle.rv_options.specs.declared.Options.{Options}
use Rattle.rv_io.specs.Support.Calls.{Readers, Texts, WroteBeginning}
use Rattle.rv_io.specs.Readers.{Reads}
use Rattle.rv_io.specs.Texts.{Side, Wrote}
use Rattle.rv_io.proofs.Sound.{sound}
use Rattle.rv_io.specs.declared.fault.ReadFault.{ReadFault}
use Rattle.rv_cli.specs.Conversions.{unread_fault}
use Rattle.rv_cli.specs.declared.fault.CliFault.{CliFault}
use Rattle.rv_cli.specs.declared.fault.CliFault.TheVariants.{OutOfMemory, Write}
use Rattle.rv_cli.specs.declared.fault.Ending.{Ending}
use Rattle.rv_cli.specs.Output.{IsOutput}
use Rattle.rv_cli.specs.Run.{Runs}

-- the texts were not read
pub refused_unread : (r : Readers) (out : Side) (options : Options) (why : ReadFault) → Reads r (Err why) →
    Runs r out options (Err (unread_fault why))
refused_unread r out options why h = search (rules, arith)

-- the texts were read, and are refused by what they mean, unless memory ran out
pub refused_by : (r : Readers) (out : Side) (options : Options) (texts : Texts) (fault : CliFault) →
    Reads r (Ok texts)
    → (fault ≢ OutOfMemory → IsOutput texts options (Err fault)) → Runs r out options (Err fault)
refused_by r out options texts fault g h = search (rules, arith, sound)

-- the text that the run prints was written
pub ended : (r : Readers) (out : Side) (options : Options) (texts : Texts) (text bytes : List ℕ)
    (ending : Ending)
    → Reads r (Ok texts) → IsOutput texts options (Ok (text, ending)) → bytes ≡ text → Wrote out bytes false
    → Runs r out options (Ok ending)
ended r out options texts text bytes ending read is same wrote = (text, (texts, read, is), rw (← same) wrote)

-- a beginning of it was written, and the writer failed
pub cut_short : (r : Readers) (out : Side) (options : Options) (result : Result Ending CliFault)
    (texts : Texts) (text bytes : List ℕ) (ending : Ending)
    → IsErrAnd result (λ fault. fault ≡ Write) → Reads r (Ok texts)
    → IsOutput texts options (Ok (text, ending)) → bytes ≡ text → WroteBeginning out bytes
    → Runs r out options result
cut_short r out options (Ok other) texts text bytes ending why read is same wrote = absurd why
cut_short r out options (Err fault) texts text bytes ending why read is same wrote =
    rw why ((text, ending), wrote.0, (texts, read, is), rw (← same) wrote.1)
