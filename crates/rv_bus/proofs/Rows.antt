-- The rows of the address table do what the accesses at their locations do.
use Rattle.std.proofs.Common.{◌≡◌, ℕ, ◌+◌, ◌-◌, ◌<◌, ◌==◌, Bool, true, false, cond, nat_le, List, [], ◌∷◌, Option, Some, None, refl, rules}
use Rattle.std.specs.Prelude.{◌&&◌, if◌then◌else◌, drop, find, is_some, length}
use Rattle.std.specs.List.{list_any}
use Rattle.std.specs.Option.{option_map}
use Rattle.std.proofs.lemmas.Bool.{and_from, and_right, eqb-true, le-leb, lt-ltb, not-true, or_parts}
use Rattle.rv_base.specs.Limits.{ram_base}
use Rattle.rv_isa.specs.declared.op.Width.{Width}
use Rattle.rv_isa.specs.Width.{bytes_of}
use Rattle.rv_ram.specs.Room.{RoomRule}
use Rattle.rv_bus.specs.State.{BusState}
use Rattle.rv_bus.specs.Table.{Window, window_at, windows}
use Rattle.rv_bus.specs.Access.{load, store, keeps_stores, fetch}
use Rattle.rv_bus.specs.Room.{wants_room}
use Rattle.rv_bus.specs.Support.Locations.{device_in, for_width, has, location_of, registers, takes}
use Rattle.rv_bus.specs.Support.AtLocation.{IsFor, Reached, location, reach_at, store_at, is_written, fetch_at, wants_room_at}
use Rattle.rv_bus.specs.declared.locations.Location.{Location}
use Rattle.rv_bus.specs.declared.locations.Location.TheVariants.{Nowhere, Ram, Serial}
use Rattle.rv_bus.proofs.Memory.{fetch_is, has_byte, writes_is}
use Rattle.rv_bus.proofs.Windows.{at_device, each_device, one_address}

-- the bytes of the narrowest access that a device takes
abbrev narrowest : Location → ℕ
narrowest (Serial reg) = 1
narrowest p = 4

narrow : (w : Width) (p : Location) → nat_le (narrowest p) (bytes_of w) ≡ takes p w
narrow w p = search rules

module _ (b : BusState) (a : ℕ) (w : Width) where
  -- what a row reaches, or none, is what an access reaches at a location
  abbrev IsRow : Option Reached → Location → Type 0
  IsRow x p = x ≡ reach_at b p (bytes_of w)

  -- whether a row takes the access, and what it reaches
  abbrev takes_it : Window → Bool
  takes_it x = nat_le x.narrowest (bytes_of w) && has x.first x.places a

  abbrev reaches : Window → Reached
  reaches x = (x.load (a - x.first), x.store (a - x.first))

  first : (t : Bool) (x : Window) (rest : Option Window) (p q : Location) → IsRow (Some (reaches x)) p
      → IsRow (option_map reaches rest) q → IsRow (option_map reaches (cond t (Some x) rest)) (if t then p else q)
  first t x rest p q here later = search rules

  -- ---- the rows of the devices

  -- rows are those of the registers, of which no later one has the same address, and then the interrupt controller's
  abbrev IsRegister : ℕ × Location → Window → List Window → Type 0
  IsRegister y x xs = (x.first ≡ y.0) × (x.places ≡ 1) × (x.narrowest ≡ narrowest y.1)
      × ((off : ℕ) → IsRow (Some (x.load off, x.store off)) y.1)
      × (list_any (λ (x : Window). has x.first x.places y.0) xs ≡ false)

  abbrev AreRows : List (ℕ × Location) → List Window → Type 0
  AreRows [] xs = xs ≡ drop (length registers + 1) (windows b (bytes_of w))
  AreRows (y ∷ ys) [] = ⊥
  AreRows (y ∷ ys) (x ∷ xs) = IsRegister y x xs × AreRows ys xs

  none_takes : (xs : List Window) → list_any (λ (x : Window). has x.first x.places a) xs ≡ false → find takes_it xs ≡ None
  none_takes [] none = refl
  none_takes (x ∷ xs) none = search (rules, or_parts, and_right, none_takes xs)

  nowhere : (t : Bool) → IsRow None (if t then Nowhere else Nowhere)
  nowhere t = search rules

  -- the row of a device, by whether it takes the width, and whether it has the address
  at_row : (t u : Bool) (x : Window) (rest : Option Window) (p q : Location) → takes p w ≡ t
      → (u ≡ true → rest ≡ None) → IsRow (Some (reaches x)) p → IsRow (option_map reaches rest) (for_width q w)
      → IsRow (option_map reaches (cond (t && u) (Some x) rest)) (for_width (if u then p else q) w)
  at_row t u x rest p q is none here later = search rules

  -- a row's test, by the location that it has
  tested : (p : Location) (u : Bool) (x : Window) (rest : Option Window) (at : Location)
      → IsRow (option_map reaches (cond (takes p w && u) (Some x) rest)) at
      → IsRow (option_map reaches (cond (nat_le (narrowest p) (bytes_of w) && u) (Some x) rest)) at
  tested p u x rest at = search rules

  rows_of : (ys : List (ℕ × Location)) (xs : List Window) → AreRows ys xs
      → IsRow (option_map reaches (find takes_it xs)) (for_width (device_in ys a) w)
  rows_of [] xs is = search (rules, tested, at_row, nowhere)
  rows_of (y ∷ ys) [] is = absurd is
  rows_of (y ∷ ys) (x ∷ xs) is = rw test
      (at_row (takes y.1 w) (a == y.0) x (find takes_it xs) y.1 (device_in ys a) refl none (is.0.3 (a - x.first))
      (rows_of ys xs is.1))
    where
      test : takes_it x ≡ (takes y.1 w && (a == y.0))
      test = rw (is.0.0, is.0.1, is.0.2, narrow w y.1, one_address y.0 a)

      none : (a == y.0) ≡ true → find takes_it xs ≡ None
      none u = none_takes xs (rw (eqb-true a y.0 u) is.0.4)

  rows : IsRow (option_map reaches (window_at b a (bytes_of w))) (location b a w)
  unfolding location_of
  rows = search (rules, tested, first, rows_of registers (drop 1 (windows b (bytes_of w))))

  -- ---- the memory and the transmit register

  fetches : fetch b.ram a ≡ fetch_at b.ram (location b a w)
  unfolding location_of
  fetches = search (rules, fetch_is, each_device)

  -- of the devices the transmit register alone is written
  abbrev others : Location
  others = device_in (drop 1 registers) a

  no_others : (t : Bool) → is_written (if t then others else Nowhere) ≡ false
  no_others t = search (rules, not-true, at_device)

  written : keeps_stores b a ≡ is_written (location b a w)
  unfolding location_of
  written = search (rules, writes_is, no_others)

  -- ---- room

  module _ (rule : RoomRule) (v : ℕ) where
    without : (p : Location) → is_written p ≡ false → wants_room_at rule b p w v ≡ false
    without p is = search rules

    has_room : wants_room rule b a w v ≡ wants_room_at rule b (location b a w) w v
    unfolding location_of wants_room
    has_room = search (rules, has_byte, without, no_others)

  -- a part of what a window reaches
  twice : {A : Type 0} (part : Reached → A) (found : Option Window)
      → option_map (λ x. part (reaches x)) found ≡ option_map part (option_map reaches found)
  twice part found = search rules

  pub at_location : IsFor b a w (location b a w)
  unfolding load store
  at_location = record {
    load = search (rules, twice, rows);
    store = λ v. search (rules, twice, rows);
    writes = written;
    room = has_room;
    fetch = fetches;
  }

  pub is_for : (p : Location) → p ≡ location b a w → IsFor b a w p
  is_for p is = rw is at_location

  -- the memory
  pub in_ram : (off : ℕ) → a ≡ ram_base + off → off < length b.ram → IsFor b a w (Ram off)
  unfolding location_of
  in_ram off is below = is_for (Ram off) (search (rules, le-leb, lt-ltb, and_from))

-- a store for which room may have to be made goes into the memory or to the transmit register, and is no fault
stores_there : (rule : RoomRule) (b : BusState) (v : ℕ) (w : Width) (p : Location) → wants_room_at rule b p w v ≡ true
    → (is_written p ≡ true) × (is_some (store_at b p w v) ≡ true)
stores_there rule b v w p is = search rules

pub room_stores : (rule : RoomRule) (b : BusState) (a v : ℕ) (w : Width) → wants_room rule b a w v ≡ true
    → (keeps_stores b a ≡ true) × (is_some (store b a w v) ≡ true)
room_stores rule b a v w is =
    let row = at_location b a w in
    rw (row.writes, row.store v) (stores_there rule b v w (location b a w) (rw (row.room rule v) at is))
