-- Loads, stores and fetches read and write only their own bytes of the memory. Each law compares a bus with
-- the same bus over another memory of the same size.
use Rattle.std.proofs.Common.{◌≡◌, ◌≢◌, ℕ, zero, suc, ◌+◌, ◌-◌, ◌≤◌, ◌<◌, List, slice_get, slice_index, slice_set, length, Option, Some, None, rules}
use Rattle.std.specs.Prelude.{IfSome}
use Rattle.std.specs.Option.{option_map}
use Rattle.std.proofs.lemmas.Bool.{le-leb, leb-true, cases_eq, cases_lt}
use Rattle.std.proofs.lemmas.Grind.{get_or-set_at}
use Rattle.std.proofs.lemmas.Option.{slice_get-get_or, slice_get_past, unwrap_or-slice_get}
use Rattle.std.proofs.lemmas.List.{set_past, get_or-set_other}
use Rattle.rv_base.specs.Limits.{ram_base}
use Rattle.rv_isa.specs.declared.op.Width.{Width}
use Rattle.rv_isa.specs.Width.{bytes_of}
use Rattle.rv_ram.specs.Bytes.{put}
use Rattle.rv_bus.specs.State.{BusState}
use Rattle.rv_bus.proofs.Memory.{fetch_is}
use Rattle.rv_bus.specs.Access.{fetch, load, store, ram_byte}
use Rattle.rv_bus.specs.Support.AtLocation.{load_at}
use Rattle.rv_bus.proofs.Others.{byte_put}
use Rattle.rv_bus.proofs.Rows.{at_location}
use Rattle.rv_bus.proofs.Windows.{each_location}
use Rattle.rv_ram.proofs.Put.{length_put}
use Rattle.rv_ram.proofs.Value.{same_value}

-- the bus over another memory
abbrev pub with_ram : BusState → List ℕ → BusState
with_ram b ram = record b { ram = ram }

-- ---- the bytes of an access

-- whether `count` bytes from an offset on are the same in both memories
abbrev pub SameBytes : List ℕ → List ℕ → ℕ → ℕ → Type 0
SameBytes one other off count = (i : ℕ) → i < count → slice_index other (off + i) ≡ slice_index one (off + i)

same_get : (one other : List ℕ) (k : ℕ) → length other ≡ length one
    → slice_index other k ≡ slice_index one k → slice_get other k ≡ slice_get one k
same_get one other k size same = search (rules, cases_lt, slice_get-get_or, slice_get_past)

same_index : (one other : List ℕ) (k : ℕ) → slice_get other k ≡ slice_get one k
    → slice_index other k ≡ slice_index one k
same_index one other k same = rw (← unwrap_or-slice_get other k 0, ← unwrap_or-slice_get one k 0, same)

-- ---- loads and fetches

-- a load of the same bytes returns the same value, and the devices after it don't depend on the memory
pub same_load : (b : BusState) (ram : List ℕ) (a : ℕ) (w : Width) → length ram ≡ length b.ram
    → (ram_base ≤ a → SameBytes b.ram ram (a - ram_base) (bytes_of w))
    → load (with_ram b ram) a w ≡ option_map (λ (r : ℕ × BusState). (r.0, with_ram r.1 ram)) (load b a w)
same_load b ram a w size same = rw ((at_location (with_ram b ram) a w).load, (at_location b a w).load, size) (search (
  rules,
  each_location (λ p. load_at (with_ram b ram) p w ≡ option_map (λ (r : ℕ × BusState). (r.0, with_ram r.1 ram)) (load_at b p w))
      (length b.ram) a w,
  same_value,
))

-- a load leaves the memory
pub memory_after_load : (b : BusState) (a : ℕ) (w : Width) → IfSome (load b a w) (λ (r : ℕ × BusState). r.1.ram ≡ b.ram)
memory_after_load b a w = search (rules, at_location, each_location)

pub same_fetch : (one other : List ℕ) (a : ℕ) → length other ≡ length one
    → (ram_base ≤ a → SameBytes one other (a - ram_base) 4) → fetch other a ≡ fetch one a
same_fetch one other a size same = search (rules, fetch_is, same_value, leb-true)

-- ---- stores

same_set : (one other : List ℕ) (i v k : ℕ) → length other ≡ length one → slice_index other k ≡ slice_index one k
    → slice_index (slice_set other i v) k ≡ slice_index (slice_set one i v) k
same_set one other i v k size same = search (rules, cases_eq, cases_lt, get_or-set_at, set_past, get_or-set_other)

-- a byte that is the same in both memories is the same after the same store
same_put : (one other : List ℕ) (off n v k : ℕ) → length other ≡ length one → slice_index other k ≡ slice_index one k
    → slice_index (put other off n v) k ≡ slice_index (put one off n v) k
unfolding put
same_put one other off zero v k size same = same
same_put one other off (suc n) v k size same =
    search (rules, same_set, length_put, same_put one other off n v k size same)

-- the bus b after a store, `one`, and the same bus over another memory after it, `other`: only the memories
-- differ, only the store's own bytes are written, and bytes that were the same stay the same
pub record StoresAlike (b : BusState) (ram : List ℕ) (a : ℕ) (w : Width) (one other : BusState) : Type 0 where
  pub rest : other ≡ with_ram one other.ram
  pub size : length one.ram ≡ length b.ram
  pub other_size : length other.ram ≡ length one.ram
  pub kept : (k : ℕ) → ((i : ℕ) → i < bytes_of w → a + i ≢ ram_base + k)
      → slice_index one.ram k ≡ slice_index b.ram k
  pub same : (k : ℕ) → slice_index ram k ≡ slice_index b.ram k
      → slice_index other.ram k ≡ slice_index one.ram k

abbrev pub BothStore : BusState → List ℕ → ℕ → Width → Option BusState → Option BusState → Type 0
BothStore b ram a w None None = Unit {0}
BothStore b ram a w None (Some other) = ⊥
BothStore b ram a w (Some one) None = ⊥
BothStore b ram a w (Some one) (Some other) = StoresAlike b ram a w one other

-- stores to a device and to the memory
device_store : (b : BusState) (ram : List ℕ) (a : ℕ) (w : Width) (one : BusState)
    → length ram ≡ length b.ram → one.ram ≡ b.ram → StoresAlike b ram a w one (with_ram one ram)
device_store b ram a w one size still = search rules

memory_store : (b : BusState) (ram : List ℕ) (a v : ℕ) (w : Width) → length ram ≡ length b.ram → ram_base ≤ a
    → StoresAlike b ram a w (record b { ram = put b.ram (a - ram_base) (bytes_of w) v })
    (record b { ram = put ram (a - ram_base) (bytes_of w) v })
memory_store b ram a v w size above = search (rules, length_put, byte_put, same_put)

pub same_store : (b : BusState) (ram : List ℕ) (a v : ℕ) (w : Width) → length ram ≡ length b.ram
    → BothStore b ram a w (store b a w v) (store (with_ram b ram) a w v)
unfolding store
same_store b ram a v w size = search (rules, at_location, each_location, memory_store, device_store)

-- ---- a byte at an address

pub same_byte : (one other : List ℕ) (a : ℕ) → length other ≡ length one
    → (ram_base ≤ a → slice_index other (a - ram_base) ≡ slice_index one (a - ram_base))
    → ram_byte other a ≡ ram_byte one a
same_byte one other a size same = search (rules, leb-true, same_get)

pub byte_same : (one other : List ℕ) (k : ℕ) → length other ≡ length one
    → ram_byte other (ram_base + k) ≡ ram_byte one (ram_base + k) → slice_index other k ≡ slice_index one k
byte_same one other k size same = search (rules, same_index, le-leb)
