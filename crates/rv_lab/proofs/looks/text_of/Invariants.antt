use Rattle.std.proofs.Common.{◌≡◌, map}
use Rattle.std.specs.List.{range_with_len}
use Rattle.rv_lab.specs.Support.Rows.{char_at}
use Rattle.rv_lab.proofs.looks.text_of.Given as goal

abbrev pub invariant-loop-offset : goal.invariant-loop-offset
invariant-loop-offset l = l.text.items ≡ map (char_at l.board l.address) (range_with_len 0 l.offset)
