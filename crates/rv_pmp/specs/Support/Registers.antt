-- The registers as the code reads and writes them: one entry after another. proofs/ proves that these are the
-- entries by number.
-- Not to audit: private contracts alone cite this.
use Rattle.std.specs.Prelude.{◌≡◌, ℕ, ◌+◌, ◌-◌, ◌*◌, ◌/◌, ◌%◌, ◌^◌, Bool, false, ◌==◌, ◌&&◌, if◌then◌else◌, List, slice_get, slice_set, Option, Some, None, MatchOption}
use Rattle.std.specs.Option.{option_map_or}
use Rattle.rv_pmp.specs.declared.entry.Entry.{Entry}
use Rattle.rv_pmp.specs.declared.register.PmpRegister.{PmpRegister}
use Rattle.rv_pmp.specs.declared.register.PmpRegister.TheVariants.{Config, Address}
use Rattle.rv_pmp.specs.Entry.{matching_code, config_byte, configured, addressed}
use Rattle.rv_pmp.specs.Pmp.{PmpState, is_address, is_config}

-- the register at an address of the control registers, if there is one
unfoldable pub register_at : ℕ → Option PmpRegister
register_at addr =
    if is_config addr then Some (Config (4 * (addr - 0x3A0)))
    else (if is_address addr then Some (Address (addr - 0x3B0)) else None)

-- the configuration byte of the entry at a place, and its address register: 0 if there is no entry
abbrev pub config_at : PmpState → ℕ → ℕ
config_at pmp place = option_map_or config_byte (slice_get pmp.entries place) 0

abbrev pub address_at : PmpState → ℕ → ℕ
address_at pmp place = option_map_or (λ entry. entry.address) (slice_get pmp.entries place) 0

-- the value of a register
abbrev pub word_of : PmpState → PmpRegister → ℕ
word_of pmp (Config first) =
    config_at pmp first + config_at pmp (first + 1) * 2 ^ 8 + config_at pmp (first + 2) * 2 ^ 16
    + config_at pmp (first + 3) * 2 ^ 24
word_of pmp (Address place) = address_at pmp place

-- the entries with the one at a place changed, if there is one
abbrev pub changed_at : List Entry → ℕ → (Entry → Entry) → List Entry
changed_at entries place change =
    option_map_or (λ entry. slice_set entries place (change entry)) (slice_get entries place) entries

-- byte i of a word, from 0 for the lowest
abbrev pub byte_of : ℕ → ℕ → ℕ
byte_of word i = word / 2 ^ (8 * i) % 2 ^ 8

-- the entries after a write to the configuration byte of the one at a place
unfoldable pub with_config : List Entry → ℕ → ℕ → List Entry
with_config entries place byte = changed_at entries place (λ entry. configured entry byte)

-- whether the entry at a place is locked and its region begins at the address of the entry before
unfoldable pub starts_locked : List Entry → ℕ → Bool
starts_locked entries place =
    option_map_or (λ entry. entry.locked && (matching_code entry.matching == 1)) (slice_get entries place) false

-- the entries after a write to the address register of the one at a place: unchanged if a locked region
-- begins there
unfoldable pub with_address : List Entry → ℕ → ℕ → List Entry
with_address entries place word =
    if starts_locked entries (place + 1) then entries
    else changed_at entries place (λ entry. addressed entry word)

-- the entries after a write of a word to a register
unfoldable pub with_word : List Entry → PmpRegister → ℕ → List Entry
with_word entries (Config first) word =
    let one = with_config entries first (byte_of word 0) in
    let two = with_config one (first + 1) (byte_of word 1) in
    let three = with_config two (first + 2) (byte_of word 2) in
    with_config three (first + 3) (byte_of word 3)
with_word entries (Address place) word = with_address entries place word

-- the result of a write that may be refused, and the state after it: the old one where it is refused
abbrev pub WritesOrRefuses : {A : Type 0} → Option A → A → A → Option Unit → Type 0
WritesOrRefuses after old new result = MatchOption result ((after ≡ None) × (new ≡ old)) (λ _. after ≡ Some new)
