use Rattle.std.proofs.Common.{rules}
use Rattle.rv_cli.proofs.Obeyed.{one_done, quit_done}
use Rattle.rv_cli.proofs.session.obey.Goals as goal

pub loop-line-preserved : goal.loop-line-preserved
loop-line-preserved g c = record {
  can_next = tt;
  is_finite = tt;
  so_far = rw c.in_ok-command.ensures.text
      (one_done _ _ _ _ _ _ _ _ _ c.loop-line.invariant.so_far c.in-Some.ensures.steps c.in_ok-command.ensures.ok
      c.in_ok-command.ensures.quits (first_of (search rules, cc)));
}

pub returns-in-Quit : goal.returns-in-Quit
returns-in-Quit g c = rw c.in_ok-command.ensures.text
    (quit_done _ _ _ _ _ _ _ _ _ c.loop-line.invariant.so_far c.in-Some.ensures.steps c.in_ok-command.ensures.ok
    c.in_ok-command.ensures.more (first_of (search rules, cc)))
