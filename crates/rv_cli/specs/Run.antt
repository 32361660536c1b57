-- The results of a run, by what its readers gave and its writer took.
-- To audit: public contracts cite this.
use Rattle.std.specs.Prelude.{ℕ, true, false, List, take, Result, Ok, Err}
use Rattle.rv_options.specs.declared.Options.{Options}
use Rattle.rv_io.specs.Readers.{EachText, Reads}
use Rattle.rv_io.specs.Texts.{Side, Wrote}
use Rattle.rv_io.specs.declared.fault.ReadFault.TheVariants as unread
use Rattle.rv_cli.specs.Output.{IsOutput}
use Rattle.rv_io.specs.declared.fault.TextName.TheVariants as text
use Rattle.rv_cli.specs.declared.fault.CliFault.{CliFault}
use Rattle.rv_cli.specs.declared.fault.CliFault.TheVariants.{ReadSource, ReadInput, ReadCommands, OutOfMemory, Write}
use Rattle.rv_cli.specs.declared.fault.Ending.{Ending}

-- the texts were read, and this is their output
abbrev pub HasOutput : EachText Side → Options → Result (List ℕ × Ending) CliFault → Type 0
HasOutput r options output = (texts : EachText (List ℕ)) × Reads r (Ok texts) × IsOutput texts options output

-- a row a result: the text that the run prints was written, and nothing else; or there is a fault of the
-- readers, of their texts, or of the writer, which took a prefix of the text
abbrev pub Runs : EachText Side → Side → Options → Result Ending CliFault → Type 0
Runs r out options (Ok end) = (text : List ℕ) × HasOutput r options (Ok (text, end)) × Wrote out text false
Runs r out options (Err ReadSource) = Reads r (Err (unread.Unreadable text.Source))
Runs r out options (Err ReadInput) = Reads r (Err (unread.Unreadable text.Input))
Runs r out options (Err ReadCommands) = Reads r (Err (unread.Unreadable text.Commands))
Runs r out options (Err OutOfMemory) = Reads r (Err unread.OutOfMemory)
Runs r out options (Err Write) =
    (done : List ℕ × Ending) × (n : ℕ) × HasOutput r options (Ok done) × Wrote out (take n done.0) true
Runs r out options (Err fault) = HasOutput r options (Err fault)
