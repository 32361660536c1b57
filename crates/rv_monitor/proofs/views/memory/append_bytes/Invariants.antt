use Rattle.std.proofs.Common.{◌≡◌, ◌+◌, ◌*◌, ◌≤◌, ◌++◌, vec_len, vec_capacity}
use Rattle.rv_monitor.specs.Support.Labels.{byte_in_line}
use Rattle.rv_monitor.specs.Views.{pieces}
use Rattle.rv_monitor.proofs.views.memory.append_bytes.Given as goal

-- the bytes below the offset were appended, 3 bytes of text each
abbrev pub invariant-loop-offset : goal.invariant-loop-offset
invariant-loop-offset g l = (l.text.items ≡ l.initial.text.items ++ pieces (byte_in_line l.board l.addr) l.offset)
    × (vec_len l.text ≡ vec_len l.initial.text + 3 * l.offset) × (vec_capacity l.initial.text ≤ vec_capacity l.text)
