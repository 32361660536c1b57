-- To audit: public contracts cite this.
-- What the replies say of a board (Debugging with GDB, appendix "GDB Remote Serial Protocol": "Overview", "Packets",
-- "Stop Reply Packets", "Standard Target Features", RISC-V).
use Rattle.std.specs.Prelude.{ℕ, zero, suc, ◌+◌, ◌-◌, ◌/◌, ◌%◌, ◌^◌, ◌==◌, ◌&&◌, List, [], ◌∷◌, ◌++◌, length, take, drop, if◌then◌else◌, nat_le, nat_lt, slice_index, Option, Some, None, codes}
use Rattle.std.specs.List.{flat_map}
use Rattle.std.specs.Option.{option_map_or}
use Rattle.rv_base.specs.Digits.{hex}
use Rattle.rv_pmp.specs.declared.mode.Mode.{Mode}
use Rattle.rv_pmp.specs.declared.mode.Mode.TheVariants.{User, Machine}
use Rattle.rv_bus.specs.Access.{ram_byte}
use Rattle.rv_board.specs.BoardState.{BoardState, csr_of}
use Rattle.rv_requests.specs.declared.request.Extent.{Extent}
use Rattle.rv_replies.specs.declared.stops.Reason.{Reason}
use Rattle.rv_replies.specs.declared.stops.Reason.TheVariants.{Plain, Breakpoint, Stored, Loaded, Accessed, Begin, End}

-- bytes, two digits each
abbrev pub digits : List ℕ → List ℕ
digits = flat_map (hex 2)

-- a word in the target's order of bytes: the low byte first
abbrev pub word_bytes : ℕ → List ℕ
word_bytes w = w % 2 ^ 8 ∷ w / 2 ^ 8 % 2 ^ 8 ∷ w / 2 ^ 16 % 2 ^ 8 ∷ w / 2 ^ 24 ∷ []

unfoldable pub word_text : ℕ → List ℕ
word_text w = digits (word_bytes w)

-- ---- registers

-- n registers from the one of a number on
unfoldable pub registers_from : BoardState → (r n : ℕ) → List ℕ
registers_from b r zero = []
registers_from b r (suc n) = word_text (slice_index b.machine.registers r) ++ registers_from b (r + 1) n

-- x0 to x31 and the pc
abbrev pub registers_text : BoardState → List ℕ
registers_text b = registers_from b 0 32 ++ word_text b.machine.pc

abbrev pub mode_number : Mode → ℕ
mode_number User = 0
mode_number Machine = 3

-- the register of a number: x0 to x31, the pc, 65 + the number of a control register, and the mode, which has the
-- number above those: 0 for user mode, 3 for machine mode
abbrev pub register_value : BoardState → ℕ → Option ℕ
register_value b n =
    if nat_lt n 32 then Some (slice_index b.machine.registers n)
    else if n == 32 then Some b.machine.pc
    else if n == 4161 then Some (mode_number b.machine.mode)
    else if nat_le 65 n && nat_lt n 4161 then csr_of b (n - 65)
    else None

abbrev pub register_text : BoardState → ℕ → List ℕ
register_text b n = option_map_or word_text (register_value b n) (codes "E01")

-- ---- memory

-- at most n bytes from an address on, up to the first at which there is no memory
unfoldable pub bytes_from : BoardState → (addr n : ℕ) → List ℕ
bytes_from b addr zero = []
bytes_from b addr (suc n) = option_map_or
    (λ byte. hex 2 byte ++ bytes_from b ((addr + 1) % 2 ^ 32) n) (ram_byte b.machine.bus.ram addr) []

-- where there is none at the first address, an error
abbrev pub memory_text : BoardState → Extent → List ℕ
memory_text b w =
    let there = bytes_from b w.from w.most in if length there == 0 then codes "E01" else there

-- ---- stops

-- an access to watched bytes: the word for its kind, and their address
abbrev pub watch_text : List ℕ → ℕ → List ℕ
watch_text word addr = word ++ hex 8 addr ++ codes ";"

unfoldable pub reason_text : Reason → List ℕ
reason_text Plain = []
reason_text Breakpoint = codes "swbreak:;"
reason_text (Stored addr) = watch_text (codes "watch:") addr
reason_text (Loaded addr) = watch_text (codes "rwatch:") addr
reason_text (Accessed addr) = watch_text (codes "awatch:") addr
reason_text Begin = codes "replaylog:begin;"
reason_text End = codes "replaylog:end;"

-- a register of a stop, by its number in two digits
abbrev pub numbered : List ℕ → ℕ → List ℕ
numbered number value = number ++ codes ":" ++ word_text value ++ codes ";"

-- a signal, with the pc, ra, sp and fp, and why
unfoldable pub stop_text : ℕ → Reason → BoardState → List ℕ
stop_text signal reason b =
    codes "T" ++ hex 2 signal
    ++ numbered (codes "20") b.machine.pc
    ++ numbered (codes "01") (slice_index b.machine.registers 1)
    ++ numbered (codes "02") (slice_index b.machine.registers 2)
    ++ numbered (codes "08") (slice_index b.machine.registers 8)
    ++ reason_text reason ++ codes "thread:1;"

-- the end of the program, with its code
abbrev pub exit_text : ℕ → List ℕ
exit_text code = codes "W" ++ hex 2 (code / 2 ^ 8) ++ hex 2 (code % 2 ^ 8)

-- a stop of a board, or the end of its program
abbrev pub state_text : ℕ → Reason → BoardState → List ℕ
state_text signal reason b = option_map_or exit_text b.machine.bus.halt (stop_text signal reason b)
