use Rattle.rv_runs.specs.Support.Plain.{aim_after, watch_ends}
use Rattle.rv_runs.proofs.Parts.{Rests}
use Rattle.rv_runs.proofs.run.run_watching.Given as goal

-- what is left of the run makes it whole
abbrev pub invariant-loop-end : goal.invariant-loop-end
invariant-loop-end l =
    Rests (watch_ends l.watches l.marks) (aim_after l.marks) (record { guards = l.fn.guards.items; goal = l.fn.goal })
    l.fn.recording l.fn.most (record { guards = l.guards.items; goal = l.goal }) l.recording l.left

abbrev pub decreases-loop-end : goal.decreases-loop-end
decreases-loop-end l = l.left
