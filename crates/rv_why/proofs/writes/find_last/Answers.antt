use Rattle.std.proofs.Common.{◌≡◌, true, false, rules, arith}
use Rattle.rv_why.specs.Origins.{is_sought}
use Rattle.rv_why.proofs.LastSought.{follows_none, followed}
use Rattle.rv_why.proofs.Standing.{may_go}
use Rattle.rv_why.proofs.writes.find_last.Goals.{then-branch, else-branch}
use Rattle.rv_why.proofs.writes.find_last.Goals as goal

pub loop-done-init : goal.loop-done-init
loop-done-init c = follows_none c.requires.in_time

pub take_step-requires : goal.take_step-requires
take_step-requires c =
    may_go _ c.requires.in_time c.loop-done.invariant.state (omega arith) c.requires.room c.requires.running

pub loop-done-preserved : goal.loop-done-preserved
loop-done-preserved c = elim c.if-branch.branch [
  | then-branch w ↦
      let met : true ≡ is_sought c.args.sought c.loop-done.run.timed = first_of (search rules, cc) in
      rw w.found-is (followed c.requires.in_time c.loop-done.invariant c.in_ok-take_step.ensures.state met)
  | else-branch w ↦
      let met : false ≡ is_sought c.args.sought c.loop-done.run.timed = first_of (search rules, cc) in
      rw w.found-is (followed c.requires.in_time c.loop-done.invariant c.in_ok-take_step.ensures.state met)
]
