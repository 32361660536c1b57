-- The image and the names of a source, or its fault.
-- To audit: public contracts cite this.
-- The language is this project's own: docs/ASSEMBLER.md.
use Rattle.std.specs.Prelude.{ℕ, suc, List, [], ◌∷◌, map, length, get_or, slice_get, is_some, Option, None, Result, Ok, Err}
use Rattle.std.specs.List.{find, flat_map, filter_map, range_with_len}
use Rattle.std.specs.Option.{option_map, option_map_or, unwrap_or}
use Rattle.std.specs.Result.{result_err, result_unwrap_or}
pub use Rattle.rv_program.specs.Program.{Assembly}
use Rattle.rv_source.specs.Reading.{Parsed, parsed}
use Rattle.rv_base.specs.Lines.{lines}
use Rattle.rv_program.specs.declared.fault.FaultKind.{FaultKind}
use Rattle.rv_program.specs.declared.fault.AsmFault.{AsmFault}
use Rattle.rv_program.specs.Faults.{kind_of}
use Rattle.rv_asm.specs.Symbols.{operand_value}
use Rattle.rv_asm.specs.Layout.{address, emitted_on, definitions, phase_two_fault}

-- ---- a line

-- the lines as read, if each can be read
abbrev pub all_parsed : List (List ℕ) → List Parsed
all_parsed = map (λ text. result_unwrap_or (parsed text) (record { labels = []; statement = None }))

-- the bytes of line k, once all symbols are known, or its fault in phase three
abbrev pub line_bytes : List Parsed → ℕ → Result (List ℕ) FaultKind
line_bytes lines k = (emitted_on lines k).contents (operand_value (definitions lines) k (address lines k))

-- ---- all lines

-- the faults of those of n lines that have one, in order; line numbers count from 1
abbrev pub faults_in : (ℕ → Option FaultKind) → ℕ → List AsmFault
faults_in fault n =
    filter_map (λ k. option_map (λ kind. record { line = suc k; kind = kind }) (fault k)) (range_with_len 0 n)

-- the fault of line k in phase one, in which it is read
abbrev pub phase_one_fault : List (List ℕ) → ℕ → Option FaultKind
phase_one_fault texts k = option_map kind_of (result_err (parsed (get_or texts k [])))

-- its fault in phase three, in which it gets its bytes; that in phase two, in which it gets its place, is
-- `phase_two_fault`
abbrev pub phase_three_fault : List Parsed → ℕ → Option FaultKind
phase_three_fault lines k = result_err (line_bytes lines k)

-- the first of some lists that isn't empty, or the empty list
abbrev pub first_not_empty : {A : Type 0} → List (List A) → List A
first_not_empty lists = unwrap_or (find (λ xs. is_some (slice_get xs 0)) lists) []

-- the faults of n lines in the first of three phases in which any line has one, by the fault of each line in each
abbrev pub first_faults : (one two three : ℕ → Option FaultKind) → ℕ → List AsmFault
first_faults one two three n = first_not_empty (faults_in one n ∷ faults_in two n ∷ faults_in three n ∷ [])

-- the image and the names of a source, or the first of its faults
unfoldable pub assembled : List ℕ → Result Assembly AsmFault
assembled source =
    let texts = lines source in let read = all_parsed texts in
    let faults = first_faults (phase_one_fault texts) (phase_two_fault read) (phase_three_fault read) (length texts) in
    let image = flat_map (λ k. result_unwrap_or (line_bytes read k) []) (range_with_len 0 (length read)) in
    option_map_or (λ fault. Err fault) (slice_get faults 0)
    (Ok (record { bytes = image; symbols = (definitions read).names }))
