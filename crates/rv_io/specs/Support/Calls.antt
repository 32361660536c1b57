-- The outcomes of reading a text, and of writing some bytes of it, and short names.
-- Not to audit: private contracts alone cite this.
use Rattle.std.specs.Prelude.{◌≡◌, ◌⊎◌, ◌<◌, ◌≤◌, ◌-◌, ℕ, true, false, [], List, length, take, drop, Option, None, IsSomeAnd, MatchOption}
use Rattle.std.specs.Io.KnownBytes.{Appends}
use Rattle.rv_io.specs.Readers.{EachText}
use Rattle.rv_io.specs.Texts.{Gave, IsSound, Side, Wrote}
use Rattle.rv_io.specs.declared.fault.ReadFault.{ReadFault}
use Rattle.rv_io.specs.declared.fault.ReadFault.TheVariants.{OutOfMemory, Unreadable}
use Rattle.rv_io.specs.declared.fault.TextName.{TextName}

-- the texts of a run, and their readers
abbrev pub Texts : Type 0
Texts = EachText (List ℕ)

abbrev pub Readers : Type 0
Readers = EachText Side

-- a reader gave a text to its end; where there is no reader, there is no text
abbrev pub GaveIf : Option Side → Option (List ℕ) → Type 0
GaveIf reader text = MatchOption reader (text ≡ None) (λ r. IsSomeAnd text (Gave r))

-- the writer took a beginning of the text, and failed
abbrev pub WroteBeginning : Side → List ℕ → Type 0
WroteBeginning w text = (count : ℕ) × Wrote w (take count text) true

-- the text is unreadable, or memory ran out while the reader was in order
abbrev pub FailsToRead : TextName → Side → ReadFault → Type 0
FailsToRead name reader fault =
    ((fault ≡ Unreadable name) × IsSound false reader) ⊎ ((fault ≡ OutOfMemory) × IsSound true reader)

-- after the first `done` bytes more were written, up to the n-th
pub record WroteUpTo (writer : Side) (bytes : List ℕ) (done n : ℕ) : Type 0 where
  pub more : done < n
  pub within : n ≤ length bytes
  pub took : Appends writer.old writer.new (take (n - done) (drop done bytes))
  pub sound : writer.failed ≡ false

-- a write failed or took none, so no byte was written
pub record WroteNone (writer : Side) : Type 0 where
  pub none : Appends writer.old writer.new []
  pub failed : writer.failed ≡ true
