-- Not to audit: private contracts alone cite this.
-- Sums, and inputs that are read one after the other.
use Rattle.std.specs.Prelude.{◌≡◌, ℕ, Bool, true, false, List, [], ◌∷◌, ◌++◌, codes, map, length, ◌==◌, ◌||◌, slice_index, if◌then◌else◌, option_and_then, Option, Some, None}
use Rattle.std.specs.Option.{option_map, option_map_or, option_or}
use Rattle.rv_base.specs.Tables.{lookup}
use Rattle.rv_timeline.specs.declared.input.Input.{Input}
use Rattle.rv_timeline.specs.declared.input.Input.TheVariants.{Rx}
use Rattle.rv_answers.specs.Memory.{escapes}
use Rattle.rv_operands.specs.Operands.{address, base_value, line_number, line_with_bytes}
use Rattle.rv_asm.specs.Lines.{Listed, bytes_of}
use Rattle.rv_asm.specs.Lines as listing
use Rattle.rv_recording.specs.declared.until.Condition.{Condition}
use Rattle.rv_recording.specs.declared.until.Condition.TheVariants.{Trap, Console, At}
use Rattle.rv_board.specs.Support.State.{BoardState, pc_of}
use Rattle.rv_commands.specs.Addresses.{address_of}
use Rattle.rv_isa.specs.Names.{register_names}
use Rattle.rv_program.specs.Program.{value_of}

-- the signs of a sum
abbrev pub is_sign : ℕ → Bool
is_sign c = (c == 43) || (c == 45)

-- the byte of an escape
abbrev pub escape_of : ℕ → Option ℕ
escape_of b = lookup (b ∷ []) escapes

-- the inputs of the bytes of a text
abbrev pub text_inputs : Option (List ℕ) → Option (List Input)
text_inputs bytes = option_map (map (λ b. Rx b)) bytes

-- inputs were appended to others, or can't be read
abbrev pub Reads : List Input → List Input → Option (List Input) → Bool → Type 0
Reads old new inputs true = option_map (λ xs. old ++ xs) inputs ≡ Some new
Reads old new inputs false = inputs ≡ None

-- a name of the source or `0x` and a number, `pc`, or a register
abbrev pub base_by : Listed → BoardState → List ℕ → Option ℕ
base_by l b word =
    option_or (address_of (value_of l.assembly.symbols) word)
    (option_or (lookup word ((codes "pc", pc_of b) ∷ []))
    (option_map (λ r. slice_index b.machine.registers r) (lookup word register_names)))

-- the value of a base, which is 0 where there is only a sign
abbrev pub base_or_zero : Listed → BoardState → List ℕ → Option ℕ
base_or_zero l b name = if length name == 0 then Some 0 else base_value l b name

-- the address of the first line from one on that has bytes
abbrev pub next_address : Listed → ℕ → Option ℕ
next_address l n = option_and_then (listing.address_of l) (line_with_bytes l n)

-- the condition of a place
abbrev pub at_place : Listed → BoardState → List ℕ → Option Condition
at_place l b word =
    let line = option_and_then (line_with_bytes l) (line_number word) in
    option_map (λ a. At a (option_map_or (λ k. length (bytes_of l k)) line 1)) (address l b word)

-- the number of bytes of a line, or of the next that has some
abbrev pub size_from : Listed → ℕ → ℕ
size_from l n = option_map_or (λ k. length (bytes_of l k)) (line_with_bytes l n) 1

-- the conditions that words name
abbrev pub named_event : BoardState → List ℕ → Option Condition
named_event b word =
    lookup word ((codes "trap", Trap) ∷ (codes "console", Console (length b.machine.bus.serial.sent)) ∷ [])
