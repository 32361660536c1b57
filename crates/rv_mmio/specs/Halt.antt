-- To audit: public contracts cite this.
-- The halt register: a program halts the board by a store to it.
use Rattle.std.specs.Prelude.{ℕ, ◌/◌, ◌%◌, ◌==◌, if◌then◌else◌, Option, Some}

-- the halt code after a store of a word, by the one before: the low half of the word says how the program ended, and
-- of one that failed the high half is its code. Any other word changes nothing
abbrev pub halted_by : Option ℕ → ℕ → Option ℕ
halted_by before word =
    if word % 65536 == 0x5555 then Some 0
    else (if word % 65536 == 0x3333 then Some (word / 65536) else before)
