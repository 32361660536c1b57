use Rattle.std.proofs.Common.{◌≡◌, ◌++◌, drop}
use Rattle.rv_lab.specs.Marks.{marks_in}
use Rattle.rv_lab.proofs.marks.marks_in.Given as goal

-- the places so far, and those that are left
abbrev pub invariant-loop-label : goal.invariant-loop-label
invariant-loop-label l = l.marks.items ++ marks_in (drop l.label-index l.labels) ≡ marks_in l.labels
