-- Where the lines of a source lie, the symbols that they define, and the faults of phase two.
-- To audit: public contracts cite this.
-- Lines are counted from 0.
-- The language is this project's own: docs/ASSEMBLER.md.
use Rattle.std.specs.Prelude.{ℕ, zero, suc, ◌+◌, ◌%◌, Bool, false, not, ◌||◌, List, [], ◌∷◌, ◌++◌, map, length, get_or, ℤ, pos, nat_lt, ◌==◌, Option, Some, None, is_some, if◌then◌else◌}
use Rattle.std.specs.Option.{unwrap_or}
use Rattle.rv_base.specs.Limits.{ram_base, image_limit}
use Rattle.rv_base.specs.Tables.{lookup}
use Rattle.rv_source.specs.Reading.{Parsed}
use Rattle.rv_source.specs.declared.line.Label.{Label}
use Rattle.rv_source.specs.declared.line.Label.TheVariants as label
use Rattle.rv_source.specs.declared.statement.Statement.{Statement}
use Rattle.rv_source.specs.declared.statement.Statement.TheVariants.{Marker}
use Rattle.rv_program.specs.declared.fault.FaultKind.{FaultKind}
use Rattle.rv_program.specs.declared.fault.FaultKind.TheVariants.{DuplicateSymbol, NotConstant, Misplaced, TooLarge}
use Rattle.rv_asm.specs.declared.locals.LocalLabel.{LocalLabel}
use Rattle.rv_asm.specs.Symbols.{Definitions, followed, operand_value}
use Rattle.rv_asm.specs.Listing.{Emitted, emitted}

-- ---- the labels of a line at an address

-- its names
abbrev pub labels_in : ℕ → List Label → List (List ℕ × ℕ)
labels_in here [] = []
labels_in here (label.Name name ∷ ls) = (name, here) ∷ labels_in here ls
labels_in here (label.Local number ∷ ls) = labels_in here ls

-- the same as definitions
abbrev pub names_in : ℕ → List Label → List (List ℕ × ℤ)
names_in here ls = map (λ l. (l.0, pos l.1)) (labels_in here ls)

abbrev pub locals_in : ℕ → ℕ → List Label → List LocalLabel
locals_in k here [] = []
locals_in k here (label.Name name ∷ ls) = locals_in k here ls
locals_in k here (label.Local n ∷ ls) = record { number = n; line = k; address = here } ∷ locals_in k here ls

-- ---- where lines lie

-- line k; past the end each has no label and no statement
abbrev pub line_at : List Parsed → ℕ → Parsed
line_at lines k = get_or lines k (record { labels = []; statement = None })

-- what is known at a place of a source: its address, and the symbols that are defined before it
pub record Known : Type 0 where
  pub address : ℕ
  pub definitions : Definitions

-- following labels of line k
abbrev pub labelled : ℕ → Known → List Label → Known
labelled k known ls = record known
    { definitions = followed known.definitions (names_in known.address ls) (locals_in k known.address ls) }

-- what the statement of line k stands for; a line without one stands for as little as a marker
abbrev pub emitted_at : ℕ → Known → Option Statement → Emitted
emitted_at k known statement =
    emitted (operand_value known.definitions k known.address) known.address (unwrap_or statement Marker)

-- following that statement
abbrev pub stated : ℕ → Known → Option Statement → Known
stated k known statement = let r = emitted_at k known statement in record {
  address = known.address + r.size;
  definitions = record known.definitions { names = known.definitions.names ++ r.defines };
}

-- before line k
unfoldable pub known_before : List Parsed → ℕ → Known
known_before lines zero = record { address = ram_base; definitions = record { names = []; locals = [] } }
known_before lines (suc k) =
    let line = line_at lines k in stated k (labelled k (known_before lines k) line.labels) line.statement

-- its address
abbrev pub address : List Parsed → ℕ → ℕ
address lines k = (known_before lines k).address

-- what its statement stands for, once its labels are defined
abbrev pub emitted_on : List Parsed → ℕ → Emitted
emitted_on ls k = emitted_at k (labelled k (known_before ls k) (line_at ls k).labels) (line_at ls k).statement

-- all symbols
abbrev pub definitions : List Parsed → Definitions
definitions lines = (known_before lines (length lines)).definitions

-- ---- phase two

-- whether names define one that is already defined
abbrev pub redefines : List (List ℕ × ℤ) → List (List ℕ × ℤ) → Bool
redefines known [] = false
redefines known (d ∷ ds) = is_some (lookup d.0 known) || redefines (known ++ d ∷ []) ds

-- the fault of line k in phase two
unfoldable pub phase_two_fault : List Parsed → ℕ → Option FaultKind
phase_two_fault lines k =
    let known = known_before lines k in let r = emitted_on lines k in
    let new = names_in known.address (line_at lines k).labels ++ r.defines in
    if redefines known.definitions.names new then Some DuplicateSymbol
    else (if not r.is_known then Some NotConstant
    else (if not (known.address % r.alignment == 0) then Some Misplaced
    else (if nat_lt (ram_base + image_limit) (known.address + r.size) then Some TooLarge else None)))
