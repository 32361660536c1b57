use Rattle.rv_convention.proofs.Following.{Following}
use Rattle.rv_convention.proofs.follow.follow_run.Given as goal

abbrev pub invariant-loop-done : goal.invariant-loop-done
invariant-loop-done g l =
    Following g.F.Follower.follows g.F.Follower.steps l.fn.first l.fn.run l.most l.run l.seen l.done
