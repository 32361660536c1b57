-- To audit: public contracts cite this.
-- What the operands of the lab's commands mean (this project's own: docs/LAB.md), by the lines and the
-- symbols of the source, and the board as it stands before the command.
use Rattle.std.specs.Prelude.{ℕ, ◌+◌, ◌-◌, ◌%◌, ◌^◌, ◌==◌, ◌||◌, Bool, true, false, List, [], ◌∷◌, length, map, take, drop, find, codes, if◌then◌else◌, nat_eq, nat_lt, not, slice_index, Option, Some, None, option_and_then}
use Rattle.std.specs.List.{ends_with, position_or_len, prefix_len, range_with_len, suffix_len}
use Rattle.std.specs.Option.{option_map, option_map_or, option_or}
use Rattle.rv_base.specs.Numbers.{number_in}
use Rattle.rv_base.specs.Tables.{lookup}
use Rattle.rv_base.specs.Words.{is_blank, words}
use Rattle.rv_isa.specs.Names.{register_names}
use Rattle.rv_isa.specs.declared.op.Cond.{Cond}
use Rattle.rv_isa.specs.declared.op.Cond.TheVariants.{Eq, Ne, Lt, Ge}
use Rattle.rv_tokens.specs.Literals.{between}
use Rattle.rv_program.specs.Program.{value_of}
use Rattle.rv_asm.specs.Lines.{Listed, bytes_of}
use Rattle.rv_asm.specs.Lines as listing
use Rattle.rv_answers.specs.Memory.{escapes}
use Rattle.rv_board.specs.BoardState.{BoardState}
use Rattle.rv_timeline.specs.Timed.{all_of, byte_input}
use Rattle.rv_timeline.specs.declared.input.Input.{Input}
use Rattle.rv_timeline.specs.declared.input.Input.TheVariants.{Rx}
use Rattle.rv_commands.specs.Addresses.{address_of}
use Rattle.rv_recording.specs.Until.{watched_value}
use Rattle.rv_recording.specs.declared.until.Watched.{Watched}
use Rattle.rv_recording.specs.declared.until.Watched.TheVariants.{Register, Word}
use Rattle.rv_recording.specs.declared.until.Condition.{Condition}
use Rattle.rv_recording.specs.declared.until.Condition.TheVariants.{Trap, Console, At, Changed, Compares}

-- the operands of a line: what follows its first word
unfoldable pub operand_text : List ℕ → List ℕ
operand_text line =
    let text = drop (prefix_len is_blank line) line in drop (position_or_len is_blank text) text

-- a text without the blanks at its ends
abbrev pub trimmed : List ℕ → List ℕ
trimmed text =
    let front = take (length text - suffix_len is_blank text) text in drop (prefix_len is_blank front) front

-- a text without its last word
abbrev pub without_last : List ℕ → List ℕ
without_last text =
    let front = take (length text - suffix_len is_blank text) text in
    take (length front - suffix_len (λ c. not (is_blank c)) front) front

-- the only one of some words
abbrev pub only_of : List (List ℕ) → Option (List ℕ)
only_of (word ∷ []) = Some word
only_of _ = None

-- ---- WHERE and V

-- a number: decimal, or hexadecimal after `0x`
unfoldable pub plain_number : List ℕ → Option ℕ
plain_number word = option_or (number_in 10 4294967295 word) (address_of (λ name. None) word)

-- the number of a line, as `12` or `12:`
unfoldable pub line_number : List ℕ → Option ℕ
line_number word =
    number_in 10 4294967295 (if ends_with nat_eq word (codes ":") then take (length word - 1) word else word)

-- a name of the source or `0x` and a number, as the monitor reads them, `pc`, or a register
unfoldable pub base_value : Listed → BoardState → List ℕ → Option ℕ
base_value l b word = option_or (address_of (value_of l.assembly.symbols) word) (lookup word
    ((codes "pc", b.machine.pc) ∷ map (λ row. (row.0, slice_index b.machine.registers row.1)) register_names))

-- what is added: `+N`, `-N`, or nothing
unfoldable pub added : List ℕ → Option ℕ
added [] = Some 0
added (sign ∷ digits) = option_map (λ n. if sign == 45 then 2 ^ 32 - n else n) (plain_number digits)

-- a base with what is added from the first sign on, modulo 2 ^ 32
unfoldable pub sum : (List ℕ → Option ℕ) → List ℕ → Option ℕ
sum based word =
    let at = position_or_len (λ c. (c == 43) || (c == 45)) word in
    option_and_then (λ a. option_map (λ n. (a + n) % 2 ^ 32) (added (drop at word))) (based (take at word))

-- WHERE: the address of a line, or a base with what is added
unfoldable pub address : Listed → BoardState → List ℕ → Option ℕ
address l b word = option_map_or (listing.address_of l) (line_number word) (sum (base_value l b) word)

-- V: a number, or a base with what is added; a sign alone is of 0
unfoldable pub word_value : Listed → BoardState → List ℕ → Option ℕ
word_value l b word =
    option_or (plain_number word) (sum (λ name. if length name == 0 then Some 0 else base_value l b name) word)

-- ---- breakpoints

-- the first line from n on that has bytes
unfoldable pub line_with_bytes : Listed → ℕ → Option ℕ
line_with_bytes l n = find (λ k. nat_lt 0 (length (bytes_of l k))) (range_with_len n (length l.addresses - n))

-- `b`, `d`: an address, where a line without bytes stands for the next that has some
unfoldable pub break_place : Listed → BoardState → List ℕ → Option ℕ
break_place l b word =
    option_map_or (λ n. option_and_then (listing.address_of l) (line_with_bytes l n)) (line_number word)
    (sum (base_value l b) word)

-- ---- conditions

-- what is watched: a register, or a word of memory between brackets
unfoldable pub watched : Listed → BoardState → List ℕ → Option Watched
watched l b word =
    option_or (option_map (λ r. Register r) (lookup word register_names))
    (option_map (λ a. Word a) (option_and_then (address l b) (between 91 93 word)))

-- what `why` follows: what is watched, or the word of memory at WHERE
unfoldable pub followed : Listed → BoardState → List ℕ → Option Watched
followed l b word = option_or (watched l b word) (option_map (λ a. Word a) (address l b word))

-- the signs of relations: how a branch compares the two, and whether it does so exchanged
unfoldable pub relations : List (List ℕ × (Cond × Bool))
relations =
    (codes "=", (Eq, false)) ∷ (codes "==", (Eq, false)) ∷ (codes "!=", (Ne, false)) ∷ (codes ">", (Lt, true))
    ∷ (codes ">=", (Ge, false)) ∷ (codes "<", (Lt, false)) ∷ (codes "<=", (Ge, true)) ∷ []

-- one word of `until`: that what it watches changes, an event, or a place: pc is at one of the bytes of a line,
-- or of the next that has some, or at another WHERE
unfoldable pub word_condition : Listed → BoardState → List ℕ → Option Condition
word_condition l b word =
    let line = option_and_then (line_with_bytes l) (line_number word) in
    option_or (option_map (λ w. Changed w (watched_value b w)) (watched l b word)) (option_or (lookup word
    ((codes "trap", Trap) ∷ (codes "console", Console (length b.machine.bus.serial.sent)) ∷ []))
    (option_map (λ a. At a (option_map_or (λ k. length (bytes_of l k)) line 1)) (address l b word)))

-- what is watched, in a relation with the first of some words
abbrev pub compared : Listed → BoardState → List ℕ → Cond × Bool → List (List ℕ) → Option Condition
compared l b word r [] = None
compared l b word r (v ∷ more) =
    option_and_then (λ w. option_map (λ n. Compares w r.0 r.1 n) (word_value l b v)) (watched l b word)

-- the condition at the front of some words, if one is there, and the words that follow it: it has one word, or three
-- where the second one is the sign of a relation
unfoldable pub leading : Listed → BoardState → List (List ℕ) → Option Condition × List (List ℕ)
leading l b [] = (None, [])
leading l b (word ∷ []) = (word_condition l b word, [])
leading l b (word ∷ second ∷ more) = option_map_or (λ r. (compared l b word r more, drop 1 more))
    (lookup second relations) (word_condition l b word, second ∷ more)

-- ---- inputs

-- the bytes of a text between quotes, if each can be read
unfoldable pub unescaped : List ℕ → Option (List ℕ)
unescaped [] = Some []
unescaped (c ∷ []) = if c == 92 then None else Some (c ∷ [])
unescaped (c ∷ d ∷ rest) =
    if c == 92 then option_and_then (λ b. option_map (λ bs. b ∷ bs) (unescaped rest)) (lookup (d ∷ []) escapes)
    else option_map (λ bs. c ∷ bs) (unescaped (d ∷ rest))

-- `rx`: the bytes of a text between quotes, once the blanks at its ends are gone, or those of words as in a timed
-- list; none if they can't be read
unfoldable pub bytes_inputs : List ℕ → Option (List Input)
bytes_inputs text =
    option_map_or (λ quoted. option_map (map (λ b. Rx b)) (unescaped quoted)) (between 34 34 (trimmed text))
    (all_of byte_input (words text))
