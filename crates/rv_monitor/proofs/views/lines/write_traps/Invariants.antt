use Rattle.std.proofs.Common.{◌≡◌, ◌+◌, ◌-◌, ◌*◌, ◌≤◌, ◌++◌, length, drop, vec_len, vec_capacity}
use Rattle.std.specs.List.{flat_map}
use Rattle.rv_monitor.specs.Views.{trap_text}
use Rattle.rv_monitor.proofs.views.lines.write_traps.Given as goal

-- the lines of the traps before the index were appended, and there is room for those that are left
abbrev pub invariant-loop-index : goal.invariant-loop-index
invariant-loop-index g l =
    (l.text.items ++ flat_map trap_text (drop l.index l.board.traps) ≡ l.fn.text.items ++ flat_map trap_text l.board.traps)
    × (vec_len l.text + 47 * (length l.board.traps - l.index) ≤ vec_capacity l.text)
