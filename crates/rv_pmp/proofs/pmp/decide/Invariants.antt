use Rattle.std.proofs.Common.{◌≡◌, drop}
use Rattle.rv_pmp.specs.Support.ActiveEntries.{decision}
use Rattle.rv_pmp.proofs.pmp.decide.Given as goal

abbrev pub invariant-loop-active : goal.invariant-loop-active
invariant-loop-active l = decision l.mode l.access l.first l.«end» (drop l.active-index l.actives)
    ≡ decision l.mode l.access l.first l.«end» l.actives
