use Rattle.std.proofs.Common.{◌≡◌, ◌++◌}
use Rattle.rv_replies.specs.Texts.{bytes_from}
use Rattle.rv_replies.proofs.memory.append_bytes.Given as goal

abbrev pub invariant-loop-left : goal.invariant-loop-left
invariant-loop-left l =
    l.out.items ++ bytes_from l.board l.address l.left ≡ l.fn.out.items ++ bytes_from l.board l.from l.most

abbrev pub decreases-loop-left : goal.decreases-loop-left
decreases-loop-left l = l.left
