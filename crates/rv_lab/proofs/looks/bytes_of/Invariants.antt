use Rattle.std.proofs.Common.{◌≡◌, map}
use Rattle.std.specs.List.{range_with_len}
use Rattle.rv_monitor.specs.Views.{byte_at_offset}
use Rattle.rv_lab.proofs.looks.bytes_of.Given as goal

abbrev pub invariant-loop-offset : goal.invariant-loop-offset
invariant-loop-offset l = l.cells.items ≡ map (byte_at_offset l.board l.address) (range_with_len 0 l.offset)
