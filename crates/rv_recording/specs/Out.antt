-- To audit: public contracts cite this.
-- The number of open calls. A run out of calls goes on up to the first step with which none is open, and pc isn't inside
-- of a line: `finish` of the lab begins with one, that of the present function or handler, and no line; `next` with none,
-- and the line at pc.
use Rattle.std.specs.Prelude.{ℕ, zero, suc, ◌+◌, ◌-◌, ◌^◌, ◌==◌, ◌&&◌, Bool, false, min, nat_lt, if◌then◌else◌, Option, Some, None}
use Rattle.std.specs.Option.{option_and_then}
use Rattle.rv_isa.specs.Support.Meaning.{means}
use Rattle.rv_isa.specs.declared.kind.Kind.{Kind}
use Rattle.rv_isa.specs.declared.kind.Kind.TheVariants.{Jal, Jalr, Mret}
use Rattle.rv_hart.specs.declared.trap.Outcome.{Outcome}
use Rattle.rv_hart.specs.declared.trap.Outcome.TheVariants.{Trapped}
use Rattle.rv_hart.specs.Step.{step}
use Rattle.rv_monitor.specs.State.{SessionState, TimedState, after, with_due}
use Rattle.rv_monitor.specs.Views.{word_at}
use Rattle.rv_recording.specs.Until.{end_at}
use Rattle.rv_board.specs.BoardState.{BoardState}
use Rattle.rv_recording.specs.declared.out.Span.{Span}
use Rattle.rv_recording.specs.declared.until.End.{End}

-- the number of open calls after a step that did that, by its instruction: a trap calls its handler; a jump that
-- writes ra (x1) is a call; a jump to ra that writes no register is a return (RISC-V Unprivileged ISA 20191213,
-- section 2.5), and so is MRET. At most 2 ^ 64 - 1 are counted
unfoldable pub open_after : ℕ → Outcome → Option Kind → ℕ
open_after calls (Trapped cause epc tval) kind = min (calls + 1) (2 ^ 64 - 1)
open_after calls did (Some (Jal rd offset)) = if rd == 1 then min (calls + 1) (2 ^ 64 - 1) else calls
open_after calls did (Some (Jalr rd base offset)) =
    if rd == 1 then min (calls + 1) (2 ^ 64 - 1) else (if rd == 0 && base == 1 then calls - 1 else calls)
open_after calls did (Some Mret) = calls - 1
open_after calls did kind = calls

-- the number after n steps of a state
unfoldable pub open_at : ℕ → TimedState → ℕ → ℕ
open_at calls s zero = calls
open_at calls s (suc n) =
    let now = after s n in open_after (open_at calls s n)
    (step (with_due now).board.machine).1 (option_and_then means (word_at now.board now.board.machine.pc))

-- pc is inside of a line, if there is one: at one of its bytes, but not at the first
abbrev pub is_inside : Option Span → BoardState → Bool
is_inside None b = false
is_inside (Some line) b =
    nat_lt line.address b.machine.pc && nat_lt (b.machine.pc - line.address) line.size

-- whether a run is out of its calls and its line
unfoldable pub is_out : Option Span → (calls : ℕ) → BoardState → Bool
is_out line calls b = if is_inside line b then false else calls == 0

-- why a run out of some open calls and of a line is over
abbrev pub out_ends : ℕ → Option Span → SessionState → ℕ → Option End
out_ends calls line s =
    end_at (λ i. is_out line (open_at calls s.timed i) (after s.timed i).board) s.breakpoints.addresses s
