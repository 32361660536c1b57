-- A store leaves the bytes and the words that it doesn't write to as they were.
use Rattle.std.proofs.Common.{◌≡◌, ◌≢◌, ℕ, zero, suc, ◌+◌, ◌*◌, ◌/◌, ◌%◌, ◌<◌, List, slice_index, slice_set, arith, refl, rules}
use Rattle.std.proofs.lemmas.Bool.{and_parts, leb-true}
use Rattle.std.proofs.lemmas.Grind.{elements}
use Rattle.rv_base.specs.Limits.{ram_base}
use Rattle.rv_isa.specs.declared.op.Width.{Width}
use Rattle.rv_isa.specs.Width.{bytes_of}
use Rattle.rv_ram.specs.Bytes.{put, value_at}
use Rattle.rv_ram.proofs.Put.{length_put}
use Rattle.rv_ram.proofs.Value.{same_value}
use Rattle.rv_bus.specs.Access.{fetch}
use Rattle.rv_bus.proofs.Memory.{fetch_is}

-- a write of one byte leaves another as it was
other : (bs : List ℕ) (i x j : ℕ) → j ≢ i → slice_index (slice_set bs i x) j ≡ slice_index bs j
other bs i x j n = grind (arith, elements)

-- a store leaves the bytes that it does not write as they were
pub byte_put : (bs : List ℕ) (off n v j : ℕ) → ((i : ℕ) → i < n → j ≢ off + i)
    → slice_index (put bs off n v) j ≡ slice_index bs j
unfolding put
byte_put bs off zero v j apart = refl
byte_put bs off (suc n) v j apart = search (rules, other, byte_put bs off n v j (λ i less. apart i (omega arith)))

-- a store leaves the words that it does not write to as they were
pub other_word : (bs : List ℕ) (off v k : ℕ) (w : Width) → off % bytes_of w ≡ 0 → k % 4 ≡ 0
    → k ≢ off / 4 * 4 → value_at (put bs off (bytes_of w) v) k 4 ≡ value_at bs k 4
other_word bs off v k w a s n = search (rules, same_value, byte_put)

-- a store leaves the word that is fetched from another address as it was
pub fetch_put : (ram : List ℕ) (off addr a v : ℕ) (w : Width) → off % bytes_of w ≡ 0 → addr ≡ ram_base + off
    → a % 4 ≡ 0 → a ≢ addr / 4 * 4 → fetch (put ram off (bytes_of w) v) a ≡ fetch ram a
fetch_put ram off addr a v w al e s n = search (rules, fetch_is, length_put, leb-true, and_parts, other_word)
