-- Symbols that are read back from a symbol table and its strings.
use Rattle.std.proofs.Common.{rules, ◌≡◌, ℕ, suc, ◌+◌, ◌*◌, ◌/◌, ◌^◌, ◌<◌, List, [], ◌∷◌, ◌++◌, drop, length, map, refl, arith, append_assoc, length-append}
use Rattle.std.proofs.lemmas.Nat.{from_le_bytes-to_le_bytes_2, from_le_bytes-to_le_bytes_4}
use Rattle.rv_elf.specs.Elf.{text}
use Rattle.rv_elf.proofs.Reading.{after_part}
use Rattle.rv_elf.specs.Symbols.{Symbol, symbol, symbols, symbols_from, named, null_symbol}
use Rattle.rv_elf.specs.Support.Tables.{entry, entries, names, table_of, strings_of, IsSmall, AreSmall, Within}

-- a text ends at a null byte
text_ends : (xs rest : List ℕ) → text (xs ++ 0 ∷ rest) ≡ text xs
unfolding text
text_ends [] rest = refl
text_ends (x ∷ xs) rest = search (rules, text_ends xs rest)

entry_over : (at : ℕ) (s : Symbol) (rest : List ℕ) → drop 16 (entry at s ++ rest) ≡ rest
unfolding entry
entry_over at s rest = refl

symbol_back : (at : ℕ) (s : Symbol) (rest strings more : List ℕ) → IsSmall s → at < 2 ^ 32 →
    drop at strings ≡ s.name ++ 0 ∷ more → symbol strings (entry at s ++ rest) ≡ named s
unfolding entry
symbol_back at s rest strings more h low is =
    search (rules, text_ends, from_le_bytes-to_le_bytes_4, from_le_bytes-to_le_bytes_2)

symbols_back : (at : ℕ) (ss : List Symbol) (strings : List ℕ) → AreSmall ss → Within at ss →
    drop at strings ≡ names ss → symbols_from (length ss) strings (entries at ss) ≡ map named ss
unfolding symbols_from
symbols_back at [] strings small within is = refl
symbols_back at (s ∷ ss) strings small within is =
    let next = after_part at strings (s.name ++ 0 ∷ []) (names ss) is in
    search (rules, append_assoc, length-append, [], symbol_back, entry_over, symbols_back (at + (length s.name + 1)) ss)

pub length_entries : (at : ℕ) (ss : List Symbol) → length (entries at ss) ≡ 16 * length ss
unfolding entry
length_entries at [] = refl
length_entries at (s ∷ ss) = omega (arith, length_entries (at + (length s.name + 1)) ss)

-- of tables that were made
pub tables_read : (strings table : List ℕ) (ss : List Symbol) → strings ≡ strings_of ss → table ≡ table_of ss →
    AreSmall ss → Within 1 ss → symbols strings table ≡ null_symbol ∷ map named ss
unfolding symbols_from text
tables_read strings table ss e f small within =
    let count : length (table_of ss) / 16 ≡ suc (length ss) = omega (arith, length_entries 1 ss) in
    search (rules, symbols_back)
