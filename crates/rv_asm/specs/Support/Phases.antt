-- The lines of a source that are laid out so far, and what is found of a source.
-- Not to audit: private contracts alone cite this.
use Rattle.std.specs.Prelude.{◌≡◌, ℕ, ◌+◌, List, [], ◌++◌, length, Option, Ok}
use Rattle.std.specs.Option.{option_map}
use Rattle.rv_base.specs.Limits.{ram_base}
use Rattle.rv_base.specs.Lines.{lines}
use Rattle.rv_source.specs.Reading.{Parsed, parsed}
use Rattle.rv_program.specs.declared.fault.FaultKind.{FaultKind}
use Rattle.rv_program.specs.declared.fault.AsmFault.{AsmFault}
use Rattle.rv_asm.specs.declared.assembler.Laid.{Laid}
use Rattle.rv_asm.specs.AllFaults.{kept, faults_of}
use Rattle.rv_asm.specs.Assembly.{all_parsed, assembled}
use Rattle.rv_asm.specs.Layout.{Known, known_before}
use Rattle.rv_asm.specs.Lines.{Located}
use Rattle.rv_asm.specs.Support.Steps.{all_faults, faults_at, located, phase_one_fault, noted_with, LaysOut, Writes, judged}

-- line k is read and laid out, its fault is appended, and it is noted
pub record Takes (k : ℕ) (text : List ℕ) (old new : Laid) : Type 0 where
  pub line : Parsed
  pub read : parsed text ≡ Ok line
  pub fault : Option FaultKind
  pub lays : LaysOut k old.known line fault new.known old.items.items new.items.items
  pub finds : new.misplaced.items ≡ old.misplaced.items ++ faults_at k fault
  pub notes_line : new.notes ≡ option_map (noted_with old.known.address line.labels new.known.address) old.notes

-- the first n lines are laid out; these are the notes before them
pub record LaidOut (ls : List Parsed) (n : ℕ) (first : Option Located) (l : Laid) : Type 0 where
  pub known_is : l.known ≡ known_before (kept ls n) n
  pub faults_are : l.misplaced.items ≡ all_faults (judged ls) n
  pub writes : l.misplaced.items ≡ [] → Writes ls n l.items.items
  pub notes_are : l.misplaced.items ≡ [] → l.notes ≡ option_map (λ _. located ls n) first

-- the same, unless one of them can't be read
pub record SoFar (texts : List (List ℕ)) (n : ℕ) (first : Option Located) (l : Laid) : Type 0 where
  pub unread_are : l.unread.items ≡ all_faults (phase_one_fault texts) n
  pub laid : l.unread.items ≡ [] → LaidOut (all_parsed texts) n first l

-- these are the faults of a source; if there are none, these are its image, its names and its notes
pub record IsExamined (source : List ℕ) (first : Option Located) (faults : List AsmFault) (bytes : List ℕ)
    (known : Known) (notes : Option Located) : Type 0 where
  pub faults_are : faults ≡ faults_of (lines source)
  pub accepts : faults ≡ [] → assembled source ≡ Ok (record { bytes = bytes; symbols = known.definitions.names })
  pub reaches : faults ≡ [] → known.address ≡ ram_base + length bytes
  pub notes_are : faults ≡ [] →
      notes ≡ option_map (λ _. located (all_parsed (lines source)) (length (lines source))) first
