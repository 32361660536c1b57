-- The frames that are read back from their table, and its size.
use Rattle.std.proofs.Common.{rules, ◌≡◌, ℕ, zero, suc, ◌+◌, ◌-◌, ◌%◌, ◌^◌, ◌<◌, ◌≤◌, ◌==◌, List, [], ◌∷◌, ◌++◌, length, map, refl, arith, length-append}
use Rattle.std.specs.Prelude.{filter, not}
use Rattle.std.specs.List.{flat_map}
use Rattle.std.proofs.lemmas.Nat.{from_le_bytes-to_le_bytes_4}
use Rattle.std.proofs.lemmas.List.{length-replicate}
use Rattle.std.proofs.Math.Seq.{take-append_seam}
use Rattle.rv_elf.proofs.Reading.{after_part}
use Rattle.rv_elf.specs.Elf.{word_at}
use Rattle.rv_elf.specs.Frames.{column_at, description, description_of, descriptions, entries_from}
use Rattle.rv_elf.specs.LineNumbers.{leb}
use Rattle.rv_elf.specs.Size.{frames_size}
use Rattle.rv_elf.specs.declared.frames.Function.{Function}
use Rattle.rv_elf.specs.Support.FrameBytes.{common_bytes, body_bytes, entry_bytes, frames_bytes, AreShort}
use Rattle.rv_elf.specs.Support.Written.{word}

-- ---- sizes

pub body_has : (f : Function) → length (body_bytes f)
    ≡ 12 + (length f.instructions.items + (4 - length f.instructions.items % 4) % 4)
unfolding body_bytes
body_has f = search (rules, length-append, length-replicate)

pub table_has : (fs : List Function) → length (frames_bytes fs) ≡ frames_size fs
table_has [] = refl
table_has (f ∷ fs) = search (rules, length-append, body_has, table_has fs)

-- ---- entries

one_entry : (k : ℕ) (body rest : List ℕ) → length body < 2 ^ 32 →
    entries_from (suc k) ((word (length body) ++ body) ++ rest) ≡ body ∷ entries_from k rest
unfolding entries_from
one_entry k body rest short =
    let over = after_part 4 ((word (length body) ++ body) ++ rest) body rest refl in
    search (rules, from_le_bytes-to_le_bytes_4, take-append_seam)

no_entries : (k : ℕ) → entries_from k [] ≡ []
unfolding entries_from
no_entries zero = refl
no_entries (suc k) = refl

entries_back : (m : ℕ) (fs : List Function) → AreShort fs →
    entries_from (length fs + m) (flat_map entry_bytes fs) ≡ map body_bytes fs
entries_back m [] short = no_entries (length {A = Function} [] + m)
entries_back m (f ∷ fs) short =
    let n : length (f ∷ fs) + m ≡ suc (length fs + m) = omega arith in
    search (rules, one_entry, entries_back m fs)

-- the common information entries come first
common_back : (k : ℕ) (rest : List ℕ) → entries_from (suc (suc k)) (common_bytes ++ rest)
    ≡ entries_from 2 common_bytes ++ entries_from k rest
unfolding entries_from
common_back k rest = refl

entries_length : (fs : List Function) → length fs ≤ length (flat_map entry_bytes fs)
entries_length [] = omega arith
entries_length (f ∷ fs) = omega (arith, length-append (entry_bytes f) (flat_map entry_bytes fs), entries_length fs)

all_back : (fs : List Function) → AreShort fs →
    entries_from (length (frames_bytes fs)) (frames_bytes fs) ≡ entries_from 2 common_bytes ++ map body_bytes fs
all_back fs short =
    let m = length (frames_bytes fs) - (2 + length fs) in
    let n : length (frames_bytes fs) ≡ suc (suc (length fs + m)) =
    omega (arith, length-append common_bytes (flat_map entry_bytes fs), entries_length fs) in
    rw (n, common_back (length fs + m) (flat_map entry_bytes fs), entries_back m fs short) refl

-- ---- what entries say

own_entries : (fs : List Function) → filter (λ e. not (word_at e 0 == 0xffffffff)) (map body_bytes fs) ≡ map body_bytes fs
unfolding body_bytes
own_entries [] = refl
own_entries (f ∷ fs) = search (rules, own_entries fs)

each_back : (section : List ℕ) (fs : List Function) → AreShort fs → column_at section 0 ≡ 1 →
    column_at section 20 ≡ 4096 + 0x341 → map (description section) (map body_bytes fs) ≡ map description_of fs
unfolding body_bytes
each_back section [] short one two = refl
each_back section (f ∷ fs) short one two = search (rules, each_back section fs)

pub frames_read : (table : List ℕ) (fs : List Function) → table ≡ frames_bytes fs → AreShort fs →
    descriptions table ≡ map description_of fs
unfolding descriptions entries_from leb
frames_read table fs is short = search (rules, all_back, own_entries, each_back)
