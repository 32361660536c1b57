-- To audit: public contracts cite this.
-- The lines of a lab's source by their addresses, and which of them `l` lists (this project's own: docs/LAB.md).
use Rattle.std.specs.Prelude.{ℕ, ◌-◌, ◌==◌, false, find, if◌then◌else◌, length, nat_lt, Option, None, option_and_then}
use Rattle.std.specs.FinSet as set
use Rattle.std.specs.List.{range_with_len}
use Rattle.std.specs.Option.{option_map_or}
use Rattle.rv_asm.specs.Lines.{Listed, address_of, bytes_of}
use Rattle.rv_monitor.specs.Views.{word_at}
use Rattle.rv_answers.specs.declared.values.Row.{Row}
use Rattle.rv_convention.specs.Profile.{is_in}
use Rattle.rv_lab.specs.State.{LabState, board, listing}

-- ---- addresses

-- the line that has a byte at an address
unfoldable pub line_at : Listed → ℕ → Option ℕ
line_at l a = find (λ n. is_in l n a) (range_with_len 1 (length l.addresses - 1))

-- ---- `l`

-- the address of line n, if it has bytes
abbrev pub bytes_at : Listed → ℕ → Option ℕ
bytes_at l n = if length (bytes_of l n) == 0 then None else address_of l n

-- what is told of line n: whether pc is at one of its bytes, whether a breakpoint is at its address, that
-- address if it has bytes, its first word if it has four bytes, and whether it has more
unfoldable pub row_of : LabState → ℕ → Row
row_of l n = record {
  number = n;
  is_here = option_map_or (λ here. here == n) (line_at (listing l) (board l).machine.pc) false;
  is_marked = option_map_or (set.contains l.recording.session.breakpoints.addresses) (bytes_at (listing l) n) false;
  address = bytes_at (listing l) n;
  word = if nat_lt (length (bytes_of (listing l) n)) 4 then None
      else option_and_then (word_at (board l)) (bytes_at (listing l) n);
  has_more = nat_lt 4 (length (bytes_of (listing l) n));
}

-- the number of lines
abbrev pub line_count : Listed → ℕ
line_count l = length l.addresses - 1
