use Rattle.std.proofs.Common.{◌≡◌, ◌++◌, drop, map, take}
use Rattle.rv_runs.specs.Support.Plain.{hit_once}
use Rattle.rv_runs.proofs.guard.count_hits.Given as goal

-- those that were asked, and those that are left
abbrev pub invariant-loop-guard : goal.invariant-loop-guard
invariant-loop-guard l = take l.guard-index l.guard-items ++ map (hit_once l.board) (drop l.guard-index l.guard-items)
    ≡ map (hit_once l.board) l.fn.guards.items
