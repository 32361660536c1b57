-- What is said of all lines by their numbers, what is kept of them, and the lines of a listing. proofs/ proves that
-- they add up to Assembly.antt.
-- Not to audit: private contracts alone cite this.
use Rattle.std.specs.Prelude.{ℕ, suc, ◌+◌, Bool, ℤ, List, [], ◌∷◌, ◌++◌, map, length, get_or, Option, Some, None, if◌then◌else◌, Ok, ◌≡◌, ◌<◌, false, pos, Result, Err, is_some}
use Rattle.std.specs.List.{flat_map, range_with_len}
use Rattle.std.specs.Option.{option_map}
use Rattle.std.specs.Result.{result_err, result_unwrap_or}
use Rattle.rv_base.specs.Lines.{lines}
use Rattle.rv_source.specs.Reading.{Parsed, parsed as parsed_of}
use Rattle.rv_base.specs.Limits.{ram_base}
use Rattle.rv_source.specs.declared.line.Label.{Label}
use Rattle.rv_program.specs.declared.fault.FaultKind.TheVariants.{DuplicateSymbol}
use Rattle.rv_asm.specs.Support.Statements.{fault_by, Valuation, added, wanted, kinds, with_value, placed_by}
use Rattle.rv_program.specs.declared.fault.FaultKind.{FaultKind}
use Rattle.rv_program.specs.declared.fault.AsmFault.{AsmFault}
use Rattle.rv_asm.specs.Layout.{line_at, emitted_at, labels_in, names_in, redefines, phase_two_fault}
pub use Rattle.rv_asm.specs.Layout.{address, Known, labelled, stated}
use Rattle.rv_program.specs.Faults.{kind_of}
use Rattle.rv_asm.specs.Assembly.{all_parsed, line_bytes, faults_in}
pub use Rattle.rv_asm.specs.Assembly.{phase_one_fault, phase_three_fault}
use Rattle.std.specs.List.Sorted.{IsNonDecreasing, IsNonDecreasingBy}
use Rattle.rv_asm.specs.Lines.{Listed, Located, bytes_of, end_of, listed as listing}
use Rattle.rv_source.specs.declared.expression.Atom.{Atom}
use Rattle.rv_source.specs.declared.expression.Atom.TheVariants.{Number}
use Rattle.rv_source.specs.declared.expression.Term.{Term}
use Rattle.rv_source.specs.declared.operand.Operand.{Operand}
use Rattle.rv_source.specs.declared.operand.Form.TheVariants as f
use Rattle.rv_source.specs.declared.statement.Statement.{Statement}
use Rattle.rv_asm.specs.declared.fixup.Waiting.{Waiting}
use Rattle.rv_asm.specs.declared.kept.Kept.{Kept}
use Rattle.rv_asm.specs.declared.kept.Kept.TheVariants as kept
use Rattle.rv_asm.specs.declared.kept.Single.{Single}
use Rattle.rv_asm.specs.Symbols.{Definitions, atom_value, sum_value, operand_value}
unfoldable pub use Rattle.rv_asm.specs.Layout.{known_before}
use Rattle.rv_asm.specs.Listing.{bytes}
use Rattle.rv_asm.specs.AllFaults.{new_labels, kept}
pub use Rattle.rv_asm.specs.AllFaults.{cleared}

-- a line with no label and no statement, as every line past the end
abbrev pub blank : Parsed
blank = record { labels = []; statement = None }

-- the names that are defined before line k
abbrev pub names : List Parsed → ℕ → List (List ℕ × ℤ)
names lines k = (known_before lines k).definitions.names

-- ---- over the numbers below n, in their order

-- f 0, f 1, .. joined
unfoldable pub joined : {A : Type 0} → (ℕ → List A) → ℕ → List A
joined f n = flat_map f (range_with_len 0 n)

-- f 0, f 1, .. and f n
unfoldable pub up_to : (ℕ → ℕ) → ℕ → List ℕ
up_to f n = map f (range_with_len 0 (suc n))

-- the faults of those of n lines that have one
unfoldable pub all_faults : (ℕ → Option FaultKind) → ℕ → List AsmFault
all_faults fault n = faults_in fault n

-- ---- the image, or its fault

-- the fault for which a line can't be read, if there is one
abbrev pub unread_kind : List ℕ → Option FaultKind
unread_kind text = option_map kind_of (result_err (parsed_of text))

-- what is known at the statement of line k
abbrev pub known_on : List Parsed → ℕ → Known
known_on lines k = labelled k (known_before lines k) (line_at lines k).labels

-- the names that n lines define as labels, with their addresses
abbrev pub labels : List Parsed → ℕ → List (List ℕ × ℕ)
labels parsed n = joined (λ k. labels_in (address parsed k) (line_at parsed k).labels) n

-- ---- phase two

-- whether labels define a name that is already defined
abbrev pub relabels : Known → List Label → Bool
relabels known ls = redefines known.definitions.names (names_in known.address ls)

-- labels but those that define a name a second time
abbrev pub new_among : Known → List Label → List Label
new_among known ls = new_labels known.address known.definitions.names ls

-- following these labels of line k
abbrev pub relabelled : ℕ → Known → List Label → Known
relabelled k known ls = labelled k known (new_among known ls)

-- `phase_two_fault`, by what is known before the line
unfoldable pub fault_on : ℕ → Known → Parsed → Option FaultKind
fault_on k known line =
    let on = relabelled k known line.labels in
    if relabels known line.labels then Some DuplicateSymbol
    else fault_by on.definitions.names on.address (emitted_at k on line.statement)

-- the fault of line k, if it has one
abbrev pub faults_at : ℕ → Option FaultKind → List AsmFault
faults_at k None = []
faults_at k (Some kind) = record { line = suc k; kind = kind } ∷ []

-- ---- the lines of a listing, one by one, and looked up

-- with a line more, from an address up to another
abbrev pub noted_with : ℕ → List Label → ℕ → Located → Located
noted_with here ls end p = record {
  addresses = p.addresses ++ end ∷ [];
  labels = p.labels ++ labels_in here ls;
}

-- the first n lines
abbrev pub located : List Parsed → ℕ → Located
located ls n = record { addresses = up_to (address ls) n; labels = labels ls n }

-- the addresses of labels never fall
abbrev pub LabelsRise : List (List ℕ × ℕ) → Type 0
LabelsRise ls = IsNonDecreasingBy (λ l. l.1) ls

-- lines lie one after the other, and so do the labels
pub record LieInOrder (p : Located) : Type 0 where
  pub some : 0 < length p.addresses
  pub first : get_or p.addresses 0 0 ≡ ram_base
  pub rises : IsNonDecreasing p.addresses
  pub labels : LabelsRise p.labels

-- this is the listing of a source: the bytes of each line are those of the assembly, and joined in order they are
-- the image, at whose end the lines end
pub record AreLinesOf (source : List ℕ) (l : Listed) : Type 0 where
  pub value : listing source ≡ Ok l
  pub each : (k : ℕ) → k < length (lines source) →
      line_bytes (all_parsed (lines source)) k ≡ Ok (bytes_of l (suc k))
  pub all : flat_map (λ k. bytes_of l (suc k)) (range_with_len 0 (length (lines source))) ≡ l.assembly.bytes
  pub end : end_of l ≡ ram_base + length l.assembly.bytes

-- ---- what is kept of a statement

abbrev pub single_value : Definitions → ℕ → ℕ → Single → Option ℤ
single_value ds line here s =
    option_map (λ v. added (added (pos 0) s.negated v) s.negative (pos s.number))
    (atom_value ds line here s.atom)

-- an atom is a number
abbrev pub IsNumber : Atom → ℕ → Type 0
IsNumber atom n = (ds : Definitions) → (line here : ℕ) → atom_value ds line here atom ≡ Some (pos n)

-- terms have the value of a single symbol and a number
abbrev pub IsSum : List Term → Single → Type 0
IsSum terms s = (ds : Definitions) → (line here : ℕ) → sum_value ds line here terms ≡ single_value ds line
    here s

-- the terms of an operand: those of a text, which has the value 0, are 0 alone
abbrev pub expression_of : Operand → List Term
expression_of x = elim x.form as (λ _. List Term)
    [ f.Value part e base ↦ e | f.Text bytes ↦ record { negative = false; atom = Number 0 } ∷ [] ]

abbrev pub waiting_bytes : ℕ → Waiting → Option ℤ → Result (List ℕ) FaultKind
waiting_bytes here waiting value = wanted (with_value here waiting) value

unfoldable pub sums_bytes : Definitions → ℕ → ℕ → Waiting → List (List Term) → Result (List ℕ) FaultKind
sums_bytes ds line here waiting sums = placed_by (with_value here waiting) sums (sum_value ds line here)

unfoldable pub kept_bytes : Definitions → ℕ → ℕ → Kept → Result (List ℕ) FaultKind
kept_bytes ds line here (kept.Instructions instructions) = Ok (bytes (kinds instructions))
kept_bytes ds line here (kept.Ready bs) = Ok bs
kept_bytes ds line here (kept.One waiting value) = waiting_bytes here waiting (single_value ds line here value)
kept_bytes ds line here (kept.Many waiting sums) = sums_bytes ds line here waiting sums

-- a statement with its place: its line, counted from 0, and its address
pub record Item : Type 0 where
  pub line : ℕ
  pub address : ℕ
  pub kept : Kept

-- the bytes of an item, once all symbols are known
abbrev pub item_bytes : Definitions → Item → Result (List ℕ) FaultKind
item_bytes ds item = kept_bytes ds item.line item.address item.kept

-- bytes appended to others, unless there is a fault
abbrev pub appended : List ℕ → Result (List ℕ) FaultKind → Result (List ℕ) FaultKind
appended out (Ok bs) = Ok (out ++ bs)
appended out (Err kind) = Err kind

-- the bytes of a line or an item; none if it has a fault
abbrev pub listed : Result (List ℕ) FaultKind → List ℕ
listed r = result_unwrap_or r []

abbrev pub item_listed : Definitions → Item → List ℕ
item_listed ds item = listed (item_bytes ds item)

-- its fault, if it has one
abbrev pub item_faults : Definitions → Item → List AsmFault
item_faults ds item = faults_at item.line (result_err (item_bytes ds item))

-- ---- one line

-- before the first line
abbrev pub start : Known
start = record { address = ram_base; definitions = record { names = []; locals = [] } }

abbrev pub values_of : ℕ → Known → Valuation
values_of k known = operand_value known.definitions k known.address

-- the bytes of the statement of line k, once all symbols are known
abbrev pub stated_bytes : Definitions → ℕ → Known → Option Statement → Result (List ℕ) FaultKind
stated_bytes ds k known statement = (emitted_at k known statement).contents (operand_value ds k known.address)

-- items have, in addition, the bytes of a statement of line k, or its fault
pub record Adds (k : ℕ) (known : Known) (statement : Option Statement) (old new : List Item) (ds : Definitions) :
    Type 0 where
  pub bytes : flat_map (item_listed ds) new
      ≡ flat_map (item_listed ds) old ++ listed (stated_bytes ds k known statement)
  pub faults : flat_map (item_faults ds) new
      ≡ flat_map (item_faults ds) old ++ faults_at k (result_err (stated_bytes ds k known statement))

-- in addition, those of line k
abbrev pub AddsLine : ℕ → Known → Parsed → List Item → List Item → Type 0
AddsLine k known line old new =
    (ds : Definitions) → Adds k (labelled k known line.labels) line.statement old new ds

-- ---- the third phase

-- the bytes of line k, by any symbols
abbrev pub bytes_by : Definitions → List Parsed → ℕ → Result (List ℕ) FaultKind
bytes_by ds lines k =
    stated_bytes ds k (labelled k (known_before lines k) (line_at lines k).labels) (line_at lines k).statement

-- items have the bytes and the faults of the first n lines
pub record Written (lines : List Parsed) (n : ℕ) (items : List Item) (ds : Definitions) : Type 0 where
  pub bytes : flat_map (item_listed ds) items ≡ joined (λ k. listed (bytes_by ds lines k)) n
  pub faults : flat_map (item_faults ds) items ≡ all_faults (λ k. result_err (bytes_by ds lines k)) n

abbrev pub Writes : List Parsed → ℕ → List Item → Type 0
Writes lines n items = (ds : Definitions) → Written lines n items ds

-- ---- the lines of a source, laid out one by one, and its faults

-- what is known after line k, which is cleared if it is faulty
abbrev pub known_after : Bool → ℕ → Known → Parsed → Known
known_after faulty k known line =
    let on = relabelled k known line.labels in if faulty then on else stated k on line.statement

-- the fault of line k in phase two, judged by the lines that are kept before it
abbrev pub judged : List Parsed → ℕ → Option FaultKind
judged lines k = phase_two_fault (kept lines k) k

-- line k is laid out, or has this fault
pub record LaysOut (k : ℕ) (known : Known) (line : Parsed) (fault : Option FaultKind) (after : Known)
    (old new : List Item) : Type 0 where
  pub fault_is : fault ≡ fault_on k known line
  pub known_is : after ≡ known_after (is_some fault) k known line
  pub adds : fault ≡ None → (ds : Definitions) → Adds k (relabelled k known line.labels) line.statement old new ds
