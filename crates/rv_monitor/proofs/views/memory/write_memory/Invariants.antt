use Rattle.std.proofs.Common.{◌≡◌, ◌+◌, ◌-◌, ◌*◌, ◌≤◌, ◌++◌, vec_len, vec_capacity}
use Rattle.std.specs.Int.{div_ceil}
use Rattle.rv_monitor.specs.Support.Labels.{memory_line}
use Rattle.rv_monitor.specs.Views.{pieces}
use Rattle.rv_monitor.proofs.views.memory.write_memory.Given as goal

-- the lines below the number were appended, and there is room for the others
abbrev pub invariant-loop-number : goal.invariant-loop-number
invariant-loop-number g l = (l.text.items ≡ l.fn.text.items ++ pieces (memory_line l.board l.addr l.count) l.number)
    × (vec_len l.text + 10 * (div_ceil l.count 16 - l.number) + 3 * (l.count - 16 * l.number) ≤ vec_capacity l.text)
