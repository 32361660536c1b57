-- Not to audit: rows of tests alone cite this.
-- What the rows of src/runs.rt say of the definition of a run.
use Rattle.std.specs.Prelude.{ℕ, ℤ, Bool, false, ◌==◌, ◌&&◌, List, [], ◌∷◌, ◌++◌, flat_map, replicate, slice_index}
use Rattle.std.specs.Int.{to_le_bytes, w32}
use Rattle.std.specs.List.{list_all}
use Rattle.std.specs.Str.{bytes_eq}
use Rattle.rv_isa.specs.declared.op.Operation.{Operation}
use Rattle.rv_isa.specs.declared.fields.Fields.{Fields}
use Rattle.rv_isa.specs.Fields.{encoded, with_fields}
use Rattle.std.specs.Option.{option_map_or}
use Rattle.rv_board.specs.BoardState.{BoardState, csr_of}
use Rattle.rv_board.specs.Boot.{board_at_reset}
use Rattle.rv_board.specs.Move.{run}
use Rattle.rv_board.specs.declared.event.Event.{Event}
use Rattle.rv_board.specs.declared.event.Event.TheVariants.{Line, Step}

-- a row of a program: an operation; rd, rs1 and rs2; the immediate; and the word
abbrev pub Row : Type 0
Row = Operation × List ℕ × ℤ × ℕ

abbrev pub fields : Row → Fields
fields row = with_fields row.0 (slice_index row.1 0) (slice_index row.1 1) (slice_index row.1 2) row.2

-- the bytes of a program's words
abbrev pub image : List Row → List ℕ
image rows = flat_map (λ row. to_le_bytes w32 row.3) rows

-- a board with a page of memory, after a program and events from its reset on
abbrev pub ran : List Row → List Event → BoardState
ran rows events = run (board_at_reset (image rows) 4096) events

-- the events of rows, each of which has a number of steps, and then a source whose line gets a level
abbrev pub events_of : List (ℕ × ℕ × ℕ) → List Event
events_of rows = flat_map (λ row. replicate row.0 Step ++ Line row.1 (row.2 == 1) ∷ []) rows

-- each word of a program is that of its fields
abbrev pub has_its_words : List Row → Bool
has_its_words rows = list_all (λ row. encoded (fields row) == row.3) rows

-- a register has a value
abbrev pub has : BoardState → ℕ × ℕ → Bool
has b row = slice_index b.machine.registers row.0 == row.1

-- a control register has a word, as machine mode reads it
abbrev pub has_word : BoardState → ℕ × ℕ → Bool
has_word b row = option_map_or (λ word. word == row.1) (csr_of b row.0) false

-- what a constant lends
abbrev pub Lent : Type 0 → Type 0
Lent A = record { now : List A }

-- a row of runs: the words; the lines; the steps after them; the pc, the registers, the control registers and the console
abbrev pub Run : Type 0
Run = Lent Row × Lent (ℕ × ℕ × ℕ) × ℕ × ℕ × Lent (ℕ × ℕ) × Lent (ℕ × ℕ) × Lent ℕ

-- the events of a run
abbrev pub events : Run → List Event
events r = events_of r.1.now ++ replicate r.2 Step

-- a program has the words of its fields, and this is what its run leaves
abbrev pub leaves : Run → BoardState → Bool
leaves r b =
    has_its_words r.0.now && (b.machine.pc == r.3) && list_all (has b) r.4.now && list_all (has_word b) r.5.now
    && bytes_eq b.machine.bus.serial.sent r.6.now

abbrev pub ends : Run → Bool
ends r = leaves r (ran r.0.now (events r))
