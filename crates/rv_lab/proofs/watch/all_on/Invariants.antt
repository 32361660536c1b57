use Rattle.std.proofs.Common.{◌≡◌, ◌++◌, drop, map}
use Rattle.rv_lab.specs.Answers.{watch_on}
use Rattle.rv_lab.proofs.watch.all_on.Given as goal

-- those so far, and those that are left
abbrev pub invariant-loop-watched : goal.invariant-loop-watched
invariant-loop-watched l =
    l.values.items ++ map (watch_on l.board) (drop l.watched-index l.watches) ≡ map (watch_on l.board) l.watches
