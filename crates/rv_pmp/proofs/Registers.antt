-- The registers by number are what the code reads and writes.
use Rattle.std.proofs.lemmas.Grind.{common_steps}
use Rattle.std.proofs.Common.{rules, ◌≡◌, ◌≢◌, ℕ, zero, suc, ◌+◌, ◌-◌, ◌*◌, ◌<◌, ◌==◌, true, List, [], ◌∷◌, length, map, get_or, Some, None, refl, arith, add-zero, nat_lt}
use Rattle.std.specs.Prelude.{slice_get, if◌then◌else◌, ◌&&◌, not}
use Rattle.std.specs.List.{range_with_len}
use Rattle.std.specs.Option.{option_map, option_map_or}
use Rattle.std.proofs.Math.ListN.{get_or-eq_default}
use Rattle.std.proofs.Math.Bool.{and-false, and-true}
use Rattle.std.proofs.lemmas.List.FromFn.{fill_by_all, get_or-map-range_with_len, length-map-range_with_len}
use Rattle.std.proofs.lemmas.Bool.Decides.{nat_tests}
use Rattle.std.proofs.lemmas.Option.{slice_get-get_or, slice_get_past}
use Rattle.rv_pmp.specs.declared.entry.Entry.{Entry}
use Rattle.rv_pmp.specs.declared.register.PmpRegister.{PmpRegister}
use Rattle.rv_pmp.specs.declared.register.PmpRegister.TheVariants.{Config}
use Rattle.rv_pmp.specs.Entry.{matching_code, config_byte, configured, addressed}
use Rattle.rv_pmp.specs.Pmp.{PmpState, is_address, is_config, off_entry, entry_at, config_word, is_locked_tor, read_register, write_register, written}
use Rattle.rv_pmp.specs.Support.Registers.{register_at, changed_at, word_of, byte_of, with_config, starts_locked, with_address, with_word}

-- ---- reads

-- what is said of an entry, if there is one, is said of the entry by its number
by_number : {A : Type 0} (f : Entry → A) (es : List Entry) (n : ℕ)
    → option_map_or f (slice_get es n) (f off_entry) ≡ f (get_or es n off_entry)
by_number f [] n = refl
by_number f (e ∷ es) zero = refl
by_number f (e ∷ es) (suc n) = by_number f es n

pub found_entry : (pmp : PmpState) (n : ℕ) → option_map_or (λ e. e) (slice_get pmp.entries n) off_entry ≡ entry_at pmp n
found_entry pmp n = by_number (λ e. e) pmp.entries n

four : (pmp : PmpState) (first : ℕ) → word_of pmp (Config first) ≡ config_word pmp first
unfolding config_byte
four pmp first = search (rules, by_number, add-zero)

pub loads : (pmp : PmpState) (addr : ℕ) → read_register pmp addr ≡ option_map (word_of pmp) (register_at addr)
unfolding read_register register_at
loads pmp addr = search (rules, four, by_number)

-- ---- one change of an entry

abbrev at : List Entry → ℕ → Entry
at es n = get_or es n off_entry

config-length : (es : List Entry) (p byte : ℕ) → length (with_config es p byte) ≡ length es
unfolding with_config
config-length es p byte = search rules

address-length : (es : List Entry) (p word : ℕ) → length (with_address es p word) ≡ length es
unfolding with_address
address-length es p word = search rules

-- an entry after a change of the one at a place
changed : (f : Entry → Entry) (es : List Entry) (p i : ℕ) → i < length es
    → at (changed_at es p f) i ≡ (if i == p then f (at es i) else at es i)
changed f es p i within = search (rules, slice_get-get_or, slice_get_past)

config-at : (es : List Entry) (p byte i : ℕ) → i < length es
    → at (with_config es p byte) i ≡ (if i == p then configured (at es i) byte else at es i)
unfolding with_config
config-at es p byte i within = changed (λ e. configured e byte) es p i within

address-at : (es : List Entry) (p word i : ℕ) → i < length es → at (with_address es p word) i
    ≡ (if (i == p) && not (starts_locked es (p + 1)) then addressed (at es i) word else at es i)
unfolding with_address
address-at es p word i within = search (rules, and-false, changed, addressed, and-true)

-- ---- a write to a configuration register

-- an entry after the four bytes of a word are written to the entries from `first` on
abbrev one_by_one : Entry → ℕ → ℕ → ℕ → Entry
one_by_one e first word i =
    let one = if i == first then configured e (byte_of word 0) else e in
    let two = if i == first + 1 then configured one (byte_of word 1) else one in
    let three = if i == first + 2 then configured two (byte_of word 2) else two in
    if i == first + 3 then configured three (byte_of word 3) else three

configs-at : (es : List Entry) (first word i : ℕ) → i < length es
    → at (with_word es (Config first) word) i ≡ one_by_one (at es i) first word i
unfolding with_word
configs-at es first word i within = search (rules, config-length, config-at)

configs-length : (es : List Entry) (first word : ℕ) → length (with_word es (Config first) word) ≡ length es
unfolding with_word
configs-length es first word = search (rules, config-length)

-- an entry of the four
among : (e : Entry) (first word i r : ℕ) → i ≡ first + r → r < 4
    → one_by_one e first word i ≡ configured e (byte_of word r)
among e first word i r is small = search rules

-- an entry outside of the four
outside : (e : Entry) (first word i : ℕ) → ((r : ℕ) → r < 4 → i ≢ first + r) → one_by_one e first word i ≡ e
outside e first word i apart = search rules

module _ (pmp : PmpState) (addr word i : ℕ) where
  config_written : is_config addr ≡ true → i < 16
      → one_by_one (entry_at pmp i) (4 * (addr - 0x3A0)) word i ≡ written pmp addr word i
  config_written is small = grind (arith, nat_tests, common_steps, among, outside)

  -- ---- a write to an address register
  top : starts_locked pmp.entries (i + 1) ≡ is_locked_tor pmp (i + 1)
  unfolding starts_locked is_locked_tor
  top = by_number (λ e. e.locked && (matching_code e.matching == 1)) pmp.entries (i + 1)

  address_written : is_address addr ≡ true → i < 16 → i < length pmp.entries
      → at (with_address pmp.entries (addr - 0x3B0) word) i ≡ written pmp addr word i
  address_written is small within = grind (arith, nat_tests, common_steps, address-at, top)

abbrev with_entries : List Entry → PmpState
with_entries es = record { entries = es }

-- each entry after a write
pub stored_entry : (pmp new : PmpState) (addr word : ℕ) → write_register pmp addr word ≡ Some new → (n : ℕ)
    → entry_at new n ≡ (if nat_lt n (length pmp.entries) then written pmp addr word n else entry_at pmp n)
unfolding write_register
stored_entry pmp new addr word is n = grind (arith, nat_tests, common_steps, get_or-map-range_with_len, length-map-range_with_len, get_or-eq_default)

module _ (pmp : PmpState) (addr word : ℕ) (sixteen : length pmp.entries ≡ 16) where
  configs_stored : is_config addr ≡ true → map (written pmp addr word) (range_with_len 0 (length pmp.entries))
      ≡ with_word pmp.entries (Config (4 * (addr - 0x3A0))) word
  configs_stored is =
      let filled = fill_by_all (written pmp addr word) (with_word pmp.entries (Config (4 * (addr - 0x3A0))) word) in
      search (rules, filled (length pmp.entries) off_entry, configs-length, configs-at, config_written)

  address_stored : is_address addr ≡ true → map (written pmp addr word) (range_with_len 0 (length pmp.entries))
      ≡ with_address pmp.entries (addr - 0x3B0) word
  address_stored is =
      let filled = fill_by_all (written pmp addr word) (with_address pmp.entries (addr - 0x3B0) word) in
      search (rules, filled (length pmp.entries) off_entry, address-length, address_written)

  pub stores : write_register pmp addr word
      ≡ option_map (λ register. with_entries (with_word pmp.entries register word)) (register_at addr)
  unfolding write_register register_at with_word
  stores = search (rules, configs_stored, address_stored)

  pub stored_by : (register : PmpRegister) (new : PmpState) → Some register ≡ register_at addr
      → new ≡ record { entries = with_word pmp.entries register word } → write_register pmp addr word ≡ Some new
  stored_by register new there is = search (rules, stores)

  pub none_stored : None ≡ register_at addr → write_register pmp addr word ≡ None
  none_stored none = search (rules, stores)

pub ruleset writes = (stored_by, none_stored)
