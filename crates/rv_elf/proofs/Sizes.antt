-- How many bytes are written.
use Rattle.std.proofs.Common.{rules, ◌≡◌, ℕ, ◌+◌, ◌*◌, ◌^◌, ◌<◌, ◌≤◌, List, [], ◌∷◌, length, map, refl, arith, length-append}
use Rattle.std.proofs.lemmas.Bool.{cases_lt}
use Rattle.rv_elf.specs.Elf.{Section, sections}
use Rattle.rv_elf.specs.Symbols.{Symbol}
use Rattle.rv_elf.specs.Size.{step_size, rows_size, lines_size, symbols_size, file_size}
use Rattle.rv_elf.specs.declared.lines.PlacedLine.{PlacedLine}
use Rattle.rv_elf.specs.Support.LineBytes.{leb_bytes, line_step, rows_bytes, table_bytes}
use Rattle.rv_elf.specs.Support.Tables.{names, table_of, strings_of}
use Rattle.rv_elf.specs.Support.Written.{AreSmall, bodies, bodies_from, file_header, program_header, file_of}
use Rattle.rv_elf.proofs.Named.{length_entries}
use Rattle.rv_elf.proofs.Reading.{file_sections, length_headers}

-- ---- the line table

step_has : (n : ℕ) → length (line_step n) ≡ step_size n
unfolding leb_bytes
step_has n = search rules

rows_have : (from : ℕ) (ls : List PlacedLine) → length (rows_bytes from ls) ≡ rows_size from ls
rows_have from [] = refl
rows_have from (l ∷ ls) = search (rules, length-append, step_has, rows_have l.line ls)

pub table_has : (name : List ℕ) (end : ℕ) (ls : List PlacedLine) → length (table_bytes name end ls) ≡ lines_size name ls
unfolding table_bytes
table_has name end ls = search (rules, length-append, [], rows_have)

-- ---- the symbols

names_have : (ss : List Symbol) → 16 * length ss + length (names ss) ≡ symbols_size (map (λ (s : Symbol). s.name) ss)
names_have [] = refl
names_have (s ∷ ss) = search (rules, length-append, [], names_have ss)

pub tables_have : (strings table : List ℕ) (ss : List Symbol) → strings ≡ strings_of ss → table ≡ table_of ss →
    length table + length strings ≡ 17 + symbols_size (map (λ (s : Symbol). s.name) ss)
tables_have strings table ss e f = rw (e, f) (omega (arith, length_entries 1 ss, names_have ss))

pub strings_exceed : (image : List ℕ) (ss : List Symbol) (lines : List PlacedLine) (name : List ℕ) →
    2 ^ 32 ≤ 1 + length (names ss) → 2 ^ 32 ≤ file_size image (map (λ (s : Symbol). s.name) ss) lines name
strings_exceed image ss lines name h = omega (arith, names_have ss)

-- ---- a file

file_length : (k : ℕ) (ss : List Section) → length (file_of k ss) ≡ bodies_from (length ss) + length (bodies ss)
unfolding file_of file_header program_header
file_length k ss = search (rules, length-append, length_headers)

pub file_within : (k : ℕ) (ss : List Section) → bodies_from (length ss) + length (bodies ss) < 2 ^ 32 →
    length (file_of k ss) < 2 ^ 32
file_within k ss low = rw (file_length k ss) low

pub file_has : (k : ℕ) (ss : List Section) → AreSmall ss → length ss < 0xff00 →
    bodies_from (length ss) + length (bodies ss) < 2 ^ 32 → length (file_of k ss)
    ≡ 84 + 40 * length (sections (file_of k ss)) + length (bodies (sections (file_of k ss)))
file_has k ss small few low = rw (file_sections k ss small few low) (file_length k ss)

-- each symbol has 17 bytes at least
pub symbols_have : (ss : List Symbol) → 17 * length ss ≤ symbols_size (map (λ (s : Symbol). s.name) ss)
symbols_have [] = omega arith
symbols_have (s ∷ ss) = omega (arith, symbols_have ss)

pub symbols_exceed : (image : List ℕ) (ss : List Symbol) (lines : List PlacedLine) (name : List ℕ) →
    (1 + length ss < 2 ^ 32 → ⊥) → 2 ^ 32 ≤ file_size image (map (λ (s : Symbol). s.name) ss) lines name
symbols_exceed image ss lines name h = search (rules, symbols_have, cases_lt)
