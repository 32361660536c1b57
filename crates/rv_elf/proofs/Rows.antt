-- The rows that are read back from a line table.
use Rattle.std.proofs.Common.{rules, ◌≡◌, ◌∙◌, ℕ, zero, suc, ◌+◌, ◌-◌, ◌*◌, ◌/◌, ◌%◌, ◌^◌, ◌<◌, ◌≤◌, List, [], ◌∷◌, ◌++◌, drop, length, pos, negsuc, Some, refl, ap, arith, append_assoc, length-append, ⊎_elim}
use Rattle.std.specs.Prelude.{◌+ℤ◌}
use Rattle.std.proofs.lemmas.Bool.{cases_lt}
use Rattle.std.proofs.lemmas.Bool.Decides.{nat_tests}
use Rattle.std.proofs.lemmas.Nat.{from_le_bytes-to_le_bytes_4}
use Rattle.std.proofs.Math.Seq.{take-length}
use Rattle.rv_elf.proofs.Reading.{after_part}
use Rattle.rv_elf.specs.Elf.{word_at}
use Rattle.rv_elf.specs.LineNumbers.{Leb, leb, Registers, initial, row, end_row, Header, program, effect, run, rows, Rises, row_of, rows_after}
use Rattle.rv_elf.specs.declared.lines.PlacedLine.{PlacedLine}
use Rattle.rv_elf.specs.Support.LineBytes.{leb_bytes, line_step, set_address, row_bytes, rows_bytes, end_bytes, program_bytes, header_bytes, table_bytes, AreSmall}
use Rattle.rv_elf.proofs.Leb.{top, last, next}

-- ---- numbers

leb_last : (b : ℕ) (bs : List ℕ) → b < 128 → leb (b ∷ bs) ≡ record { value = b; half = 64; rest = bs }
unfolding leb
leb_last b bs below = grind (arith, nat_tests)

leb_next : (b : ℕ) (bs : List ℕ) → 128 ≤ b →
    leb (b ∷ bs) ≡ record { value = b % 128 + 128 * (leb bs).value; half = 128 * (leb bs).half; rest = (leb bs).rest }
unfolding leb
leb_next b bs above = grind (arith, nat_tests)

-- a number of at most that many bytes and one more is read back, and isn't negative
record IsBack (n : ℕ) (after : List ℕ) (l : Leb) : Type 0 where
  value : l.value ≡ n
  half : n < l.half
  rest : l.rest ≡ after

number_back : (k n : ℕ) (rest : List ℕ) → n < top k 64 → IsBack n rest (leb (leb_bytes k 64 n ++ rest))
unfolding leb_bytes
number_back zero n rest below = rw (leb_last n rest (omega arith)) record { value = refl; half = below; rest = refl }
number_back (suc k) n rest below = ⊎_elim
    (λ l. rw (last k 64 n l, leb_last n rest (omega arith)) record { value = refl; half = l; rest = refl })
    (λ l. let back = number_back k (n / 128) rest (omega arith) in search (rules, leb_next, next)) (cases_lt n 64)

-- ---- opcodes

abbrev head : Header
head = record {
  unit = 1;
  line_base = negsuc 4;
  line_range = 14;
  opcode_base = 13;
  operands = 0 ∷ 1 ∷ 1 ∷ 1 ∷ 1 ∷ 0 ∷ 0 ∷ 0 ∷ 1 ∷ 0 ∷ 0 ∷ 1 ∷ [];
}

address_runs : (f a : ℕ) (r : Registers) (rest : List ℕ) → a < 2 ^ 32 →
    run (suc f) head r (set_address a ++ rest) ≡ run f head (record r { address = a }) rest
unfolding run effect leb
address_runs f a r rest small = rw (from_le_bytes-to_le_bytes_4 a small) refl

line_runs : (f n : ℕ) (r : Registers) (rest : List ℕ) → n < 2 ^ 32 →
    run (suc f) head r (3 ∷ (line_step n ++ rest)) ≡ run f head (record r { line = r.line +ℤ pos n }) rest
unfolding run effect
line_runs f n r rest small = search (rules, number_back)

copy_runs : (f : ℕ) (r : Registers) (rest : List ℕ) → run (suc f) head r (1 ∷ rest) ≡ row r ∷ run f head r rest
unfolding run effect
copy_runs f r rest = refl

end_runs : (f : ℕ) (r : Registers) → run (suc f) head r (0 ∷ 1 ∷ 1 ∷ []) ≡ end_row r ∷ []
unfolding run effect leb
end_runs f r = search rules

-- ---- rows

abbrev at_line : ℕ → ℕ → Registers
at_line address line = record { address = address; file = 1; line = pos line }

row_runs : (f a from : ℕ) (l : PlacedLine) (rest : List ℕ) → from ≤ l.line → l.line < 2 ^ 32 → l.address < 2 ^ 32 →
    run (suc (suc (suc f))) head (at_line a from) (row_bytes from l ++ rest) ≡ row_of l ∷ run f head (at_line l.address l.line) rest
row_runs f a from l rest rises small low = search (rules, append_assoc, [], pos, address_runs, line_runs, copy_runs)

rows_run : (m a from end : ℕ) (ls : List PlacedLine) → Rises from ls → AreSmall ls → end < 2 ^ 32 →
    run (3 * length ls + (2 + m)) head (at_line a from) (rows_bytes from ls ++ end_bytes end) ≡ rows_after from ls end
unfolding rows_after
rows_run m a from end [] rises small low =
    let two : 3 * length {A = PlacedLine} [] + (2 + m) ≡ suc (suc m) = omega arith in
    ap (λ (n : ℕ). run n head (at_line a from) (end_bytes end)) two
    ∙ address_runs (suc m) end (at_line a from) (0 ∷ 1 ∷ 1 ∷ []) low ∙ end_runs m (at_line end from)
rows_run m a from end (l ∷ ls) rises small low =
    let more : 3 * length (l ∷ ls) + (2 + m) ≡ suc (suc (suc (3 * length ls + (2 + m)))) = omega arith in
    search (rules, append_assoc, row_runs, rows_run m l.address l.line end ls)

rows_length : (from : ℕ) (ls : List PlacedLine) → 3 * length ls ≤ length (rows_bytes from ls)
rows_length from [] = omega arith
rows_length from (l ∷ ls) = omega (arith, length-append (row_bytes from l) (rows_bytes l.line ls), rows_length l.line ls)

program_runs : (end : ℕ) (ls : List PlacedLine) → Rises 1 ls → AreSmall ls → end < 2 ^ 32 →
    run (length (program_bytes end ls)) head initial (program_bytes end ls) ≡ rows_after 1 ls end
program_runs end ls rises small low =
    let m = length (program_bytes end ls) - (3 * length ls + 2) in
    let e : length (program_bytes end ls) ≡ 3 * length ls + (2 + m) =
    omega (arith, length-append (rows_bytes 1 ls) (end_bytes end), rows_length 1 ls) in
    search (rules, rows_run)

-- ---- a whole table

sizes_back : (name : List ℕ) (end : ℕ) (ls : List PlacedLine) → length (table_bytes name end ls) < 4 + 2 ^ 32 →
    (word_at (table_bytes name end ls) 6 ≡ length (header_bytes name))
    × (word_at (table_bytes name end ls) 0 ≡ 6 + length (header_bytes name) + length (program_bytes end ls))
unfolding table_bytes
sizes_back name end ls low =
    let e = length-append (header_bytes name) (program_bytes end ls) in (
      from_le_bytes-to_le_bytes_4 (length (header_bytes name)) (omega arith),
      from_le_bytes-to_le_bytes_4 (6 + length (header_bytes name) + length (program_bytes end ls)) (omega arith),
    )

after_sizes : (name : List ℕ) (end : ℕ) (ls : List PlacedLine) →
    drop 10 (table_bytes name end ls) ≡ header_bytes name ++ program_bytes end ls
unfolding table_bytes
after_sizes name end ls = refl

program_back : (name : List ℕ) (end : ℕ) (ls : List PlacedLine) → length (table_bytes name end ls) < 4 + 2 ^ 32 →
    program (table_bytes name end ls) ≡ program_bytes end ls
program_back name end ls low =
    let s = sizes_back name end ls low in
    let hs = header_bytes name in
    let ps = program_bytes end ls in
    let after = after_part 10 (table_bytes name end ls) hs ps (after_sizes name end ls) in
    let size : 4 + (6 + length hs + length ps) - (10 + length hs) ≡ length ps = omega arith in
    search (rules, take-length)

pub table_read : (table name : List ℕ) (end : ℕ) (ls : List PlacedLine) → table ≡ table_bytes name end ls →
    Rises 1 ls → AreSmall ls → end < 2 ^ 32 → length (table_bytes name end ls) < 4 + 2 ^ 32 →
    rows table ≡ Some (rows_after 1 ls end)
unfolding rows table_bytes
table_read table name end ls is rises small low within = search (rules, program_back, program_runs)
