use Rattle.std.proofs.Common.{◌≡◌, map}
use Rattle.std.specs.List.{range_with_len}
use Rattle.rv_lab.specs.Support.Rows.{word_cell}
use Rattle.rv_lab.proofs.looks.words_of.Given as goal

abbrev pub invariant-loop-index : goal.invariant-loop-index
invariant-loop-index l = l.cells.items ≡ map (word_cell l.board l.address) (range_with_len 0 l.index)
