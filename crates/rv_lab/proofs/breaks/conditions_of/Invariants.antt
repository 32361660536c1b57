use Rattle.std.proofs.Common.{◌≡◌, ◌++◌, drop, map}
use Rattle.rv_lab.specs.Answers.{condition_of}
use Rattle.rv_lab.proofs.breaks.conditions_of.Given as goal

-- the conditions so far, and those that are left
abbrev pub invariant-loop-guard : goal.invariant-loop-guard
invariant-loop-guard l = l.conditions.items ++ map condition_of (drop l.guard-index l.guards) ≡ map condition_of l.guards
