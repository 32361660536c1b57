use Rattle.std.proofs.Common.{◌≡◌, ◌+◌, ◌*◌, ◌≤◌, ◌++◌, vec_len, vec_capacity}
use Rattle.rv_monitor.specs.Views.{pieces, register_in_line}
use Rattle.rv_monitor.proofs.views.registers.append_registers.Given as goal

-- the registers below the number were appended, 13 bytes each
abbrev pub invariant-loop-number : goal.invariant-loop-number
invariant-loop-number g l = (l.text.items ≡ l.initial.text.items ++ pieces (register_in_line l.board) l.number)
    × (vec_len l.text ≡ vec_len l.initial.text + 13 * l.number) × (vec_capacity l.initial.text ≤ vec_capacity l.text)
