-- To audit: public contracts cite this.
-- The text that each command prints of a board (this project's own: docs/MONITOR.md).
use Rattle.std.specs.Prelude.{ℕ, ◌+◌, ◌-◌, ◌*◌, ◌/◌, ◌%◌, ◌^◌, ◌==◌, List, [], ◌∷◌, ◌++◌, if◌then◌else◌, min, slice_index, Option, unwrap_or, codes}
use Rattle.std.specs.List.{flat_map, range_with_len}
use Rattle.std.specs.Option.{option_map, option_map_or}
use Rattle.std.specs.Fmt.{decimal}
use Rattle.std.specs.Int.{div_ceil}
use Rattle.rv_isa.specs.Support.Meaning.{means}
use Rattle.rv_isa.specs.Text.{text}
use Rattle.rv_pmp.specs.Mode.{is_machine}
use Rattle.rv_ram.specs.Bytes.{value_at}
use Rattle.rv_timeline.specs.Timed.{all_of}
use Rattle.rv_plic.specs.Gateways.{edges_of}
use Rattle.rv_bus.specs.Access.{ram_byte}
use Rattle.rv_board.specs.BoardState.{BoardState, csr_of}
use Rattle.rv_board.specs.declared.event.TrapRecord.{TrapRecord}
use Rattle.rv_base.specs.Digits.{hex}

-- ---- pieces of text

-- a line: a text with a line end
abbrev pub line : List ℕ → List ℕ
line text = text ++ 10 ∷ []

-- the pieces of the numbers below n, one after another
unfoldable pub pieces : (ℕ → List ℕ) → ℕ → List ℕ
pieces piece n = flat_map piece (range_with_len 0 n)

-- ---- registers

-- the pc and the mode, as `pc=80000000 mode=M`
unfoldable pub place_text : BoardState → List ℕ
place_text b = codes "pc=" ++ hex 8 b.machine.pc
    ++ codes " mode=" ++ (if is_machine b.machine.mode then codes "M" else codes "U")

-- a register, as `x07=00000555`, its number in two decimal digits; a line end follows the last of four, and a
-- space the others
unfoldable pub register_in_line : BoardState → ℕ → List ℕ
register_in_line b r = (codes "x" ++ (48 + r / 10) ∷ (48 + r % 10) ∷ codes "="
    ++ hex 8 (slice_index b.machine.registers r)) ++ (if r % 4 == 3 then codes "\n" else codes " ")

-- `r`: x0 to x31, four in a line; then a line of the pc and the mode
unfoldable pub registers_text : BoardState → List ℕ
registers_text b = pieces (register_in_line b) 32 ++ line (place_text b)

-- `p`: a control register, by the name that the command gives
unfoldable pub control_register_text : BoardState → List ℕ → ℕ → List ℕ
control_register_text b name csr = line (name ++ codes "=" ++ hex 8 (unwrap_or (csr_of b csr) 0))

-- ---- memory

-- the byte at an offset from an address, modulo 2 ^ 32
abbrev pub byte_at_offset : BoardState → ℕ → ℕ → Option ℕ
byte_at_offset b addr offset = ram_byte b.machine.bus.ram ((addr + offset) % 2 ^ 32)

-- a line of a dump: an address, and `count` bytes from there on, each `--` where there is no memory
unfoldable pub bytes_line : BoardState → ℕ → ℕ → List ℕ
bytes_line b addr count = line (hex 8 addr ++ codes ":"
    ++ pieces (λ i. codes " " ++ option_map_or (hex 2) (byte_at_offset b addr i) (codes "--")) count)

-- `m`: a dump of `count` bytes, 16 in a line, and in the last line those that are left
unfoldable pub memory_text : BoardState → ℕ → ℕ → List ℕ
memory_text b addr count =
    pieces (λ k. bytes_line b ((addr + 16 * k) % 2 ^ 32) (min 16 (count - 16 * k))) (div_ceil count 16)

-- the word at an address, low byte first, if there is memory for all four bytes
unfoldable pub word_at : BoardState → ℕ → Option ℕ
word_at b addr = option_map (λ bytes. value_at bytes 0 4)
    (all_of (λ offset. option_map (λ byte. byte ∷ []) (byte_at_offset b addr offset)) (0 ∷ 1 ∷ 2 ∷ 3 ∷ []))

-- `i`: an address, and the word there with its instruction, or `illegal` where no instruction has the word;
-- `--------` where there is no word
unfoldable pub instruction_text : BoardState → ℕ → List ℕ
instruction_text b addr =
    let told : ℕ → List ℕ = λ w. hex 8 w ++ codes " " ++ option_map_or text (means w) (codes "illegal") in
    line (hex 8 addr ++ codes ": " ++ option_map_or told (word_at b addr) (codes "--------"))

-- ---- traps

-- `t`: the line of a trap, of those that the board keeps, oldest first
unfoldable pub trap_text : TrapRecord → List ℕ
trap_text t =
    line ((codes "trap cause=" ++ hex 8 t.cause) ++ (codes " epc=" ++ hex 8 t.epc)
    ++ (codes " tval=" ++ hex 8 t.tval))

-- ---- pending edges

-- `e`: how many edges of a source are pending
unfoldable pub edges_text : BoardState → ℕ → List ℕ
edges_text b n =
    line (codes "source " ++ decimal n ++ codes " edges=" ++ decimal (edges_of b.machine.bus.plic.edges n))

-- ---- stops

-- `s` and `c`: why the steps ended, and how the board stands
unfoldable pub stop_text : BoardState → List ℕ → List ℕ
stop_text b word =
    line (codes "stop " ++ word ++ codes " " ++ place_text b ++ codes " steps=" ++ decimal b.steps)
