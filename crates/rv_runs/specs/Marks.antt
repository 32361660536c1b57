-- To audit: public contracts cite this.
-- Runs up to a mark, which is an address of the program (this project's own: docs/LAB.md).
use Rattle.std.specs.Prelude.{ℕ, ◌==◌, ◌&&◌, Bool, List, Option, None}
use Rattle.std.specs.List.{list_any}
use Rattle.rv_board.specs.BoardState.{BoardState}
use Rattle.rv_monitor.specs.State.{SessionState, after}
use Rattle.rv_recording.specs.Out.{is_out, open_at}
use Rattle.rv_recording.specs.Until.{end_at}
use Rattle.rv_recording.specs.declared.until.End.{End}

-- whether an address is one of some marks
unfoldable pub is_mark : List ℕ → ℕ → Bool
is_mark ms a = list_any (λ m. m == a) ms

-- whether a run is out of its calls, and pc at a mark
unfoldable pub is_marked : List ℕ → (calls : ℕ) → BoardState → Bool
is_marked ms calls b = is_out None calls b && is_mark ms b.machine.pc

-- why a run out of some open calls and up to a mark is over
abbrev pub mark_ends : List ℕ → ℕ → SessionState → ℕ → Option End
mark_ends ms calls s =
    end_at (λ i. is_marked ms (open_at calls s.timed i) (after s.timed i).board) s.breakpoints.addresses s
