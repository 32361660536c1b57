-- To audit: public contracts cite this.
-- The last trap of a board, and how often it came in a row, of the traps that are kept (at most 64). A handler that
-- traps itself, one that returns to the same instruction, and an interrupt that isn't withdrawn fill them with one.
use Rattle.std.specs.Prelude.{ℕ, zero, suc, ◌+◌, ◌-◌, ◌==◌, ◌&&◌, Bool, false, if◌then◌else◌, List, length, slice_get, Option}
use Rattle.std.specs.Option.{option_map, option_map_or}
use Rattle.rv_board.specs.declared.event.TrapRecord.{TrapRecord}
use Rattle.rv_answers.specs.declared.explained.Repeated.{Repeated}

-- the next trap is the same
abbrev pub comes_again : TrapRecord → Option TrapRecord → Bool
comes_again t next =
    option_map_or (λ u. (t.cause == u.cause) && ((t.epc == u.epc) && (t.tval == u.tval))) next false

-- trap n of a list is the same as the one after it
abbrev pub is_followed : List TrapRecord → ℕ → Bool
is_followed ts n = option_map_or (λ t. comes_again t (slice_get ts (n + 1))) (slice_get ts n) false

-- how many traps in a row before trap n of a list are the same as it
unfoldable pub same_before : List TrapRecord → ℕ → ℕ
same_before ts zero = 0
same_before ts (suc n) = if is_followed ts n then same_before ts n + 1 else 0

-- the last trap
unfoldable pub last_repeated : List TrapRecord → Option Repeated
last_repeated ts = let last = length ts - 1 in option_map (λ t. record {
  cause = t.cause;
  value = t.tval;
  address = t.epc;
  times = same_before ts last + 1;
}) (slice_get ts last)
