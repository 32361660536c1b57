-- Fetches and writes, by whether an address is in the memory.
use Rattle.std.proofs.Common.{◌≡◌, ℕ, ◌-◌, ◌==◌, nat_lt, List, length, Some, None, zero, suc, [], ◌∷◌, rules}
use Rattle.std.specs.Prelude.{◌||◌, if◌then◌else◌, is_some, slice_get}
use Rattle.rv_base.specs.Limits.{ram_base}
use Rattle.rv_ram.specs.Bytes.{value_at}
use Rattle.rv_bus.specs.State.{BusState}
use Rattle.rv_bus.specs.Access.{fetch, ram_byte, keeps_stores}
use Rattle.rv_bus.specs.Support.AtLocation.{in_memory}

is_within : (bs : List ℕ) (i : ℕ) → is_some (slice_get bs i) ≡ nat_lt i (length bs)
is_within [] i = search rules
is_within (b ∷ bs) zero = search rules
is_within (b ∷ bs) (suc i) = search (rules, is_within bs i)

pub has_byte : (ram : List ℕ) (a : ℕ) → is_some (ram_byte ram a) ≡ in_memory ram a
has_byte ram a = search (rules, is_within)

pub fetch_is : (ram : List ℕ) (a : ℕ)
    → fetch ram a ≡ (if in_memory ram a then Some (value_at ram (a - ram_base) 4) else None)
unfolding fetch
fetch_is ram a = rw (has_byte ram a)

pub writes_is : (b : BusState) (a : ℕ) → keeps_stores b a ≡ (in_memory b.ram a || (a == 0x10000000))
unfolding keeps_stores
writes_is b a = rw (has_byte b.ram a)
