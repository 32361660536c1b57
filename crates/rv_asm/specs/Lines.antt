-- The lines of an accepted source with their addresses and their bytes, and its labels.
-- To audit: public contracts cite this.
-- Here lines are counted from 1, but `address`, `line_at` and `line_bytes` count them from 0.
use Rattle.std.specs.Prelude.{ℕ, suc, ◌-◌, ◌<◌, ◌≤◌, ◌&&◌, nat_lt, List, [], map, length, get_or, slice_range, Option, Some, None, if◌then◌else◌, Result, Ok}
use Rattle.std.specs.List.{flat_map, range_with_len}
use Rattle.std.specs.Option.{option_map_or}
use Rattle.rv_base.specs.Lines.{lines}
use Rattle.rv_base.specs.Limits.{ram_base}
use Rattle.rv_program.specs.Program.{Assembly}
use Rattle.rv_program.specs.declared.fault.AsmFault.{AsmFault}
use Rattle.rv_asm.specs.Layout.{line_at, address, labels_in}
use Rattle.rv_asm.specs.Listing.{◌>>=◌}
use Rattle.rv_asm.specs.Assembly.{all_parsed, assembled}

-- the image and the names of a source; the address of each line, and last the one following them all; and the
-- labels with their addresses, in order of definition
pub record Listed : Type 0 where
  pub assembly : Assembly
  pub addresses : List ℕ
  pub labels : List (List ℕ × ℕ)

-- where the lines of a source lie, with the one following them all, and its labels, both as in a listing
pub record Located : Type 0 where
  pub addresses : List ℕ
  pub labels : List (List ℕ × ℕ)

-- a listing by its image and names, and the places of its lines
abbrev pub listing_of : Assembly → Located → Listed
listing_of a p = record { assembly = a; addresses = p.addresses; labels = p.labels }

-- the listing of a source, or its fault
unfoldable pub listed : List ℕ → Result Listed AsmFault
listed source =
    let parsed = all_parsed (lines source) in
    let addresses = map (address parsed) (range_with_len 0 (suc (length parsed))) in
    let labels_on = λ (k : ℕ). labels_in (address parsed k) (line_at parsed k).labels in
    let labels = flat_map labels_on (range_with_len 0 (length parsed)) in
    assembled source >>= λ a. Ok (record { assembly = a; addresses = addresses; labels = labels })

-- ---- what a listing says of a line

-- the address of what line n stands for
abbrev pub address_of : Listed → ℕ → Option ℕ
address_of l n =
    if nat_lt 0 n && nat_lt n (length l.addresses) then Some (get_or l.addresses (n - 1) 0) else None

-- its bytes in the image: those up to the next line's
abbrev pub bytes_of : Listed → ℕ → List ℕ
bytes_of l n = option_map_or
    (λ a. slice_range l.assembly.bytes (a - ram_base) (get_or l.addresses n 0 - ram_base)) (address_of l n) []

-- the address following all lines
abbrev pub end_of : Listed → ℕ
end_of l = get_or l.addresses (length l.addresses - 1) 0

-- the byte at an address is one of line n
abbrev pub HasByteAt : Listed → ℕ → ℕ → Type 0
HasByteAt l a n = (0 < n) × (get_or l.addresses (n - 1) 0 ≤ a) × (a < get_or l.addresses n 0)
