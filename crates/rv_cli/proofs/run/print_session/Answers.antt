use Rattle.std.proofs.Common.{refl}
use Rattle.rv_cli.proofs.run.print_session.Goals as goal

pub returns : goal.returns
returns g c = record {
  last = c.run_session.new.session;
  answers = c.in_ok-text.text.items;
  done = c.in_ok-text.ensures;
  is = rw (
    c.in_ok-print_board.ensures,
    c.ending-ending.ensures,
    c.board.ensures.value,
    c.board-2.ensures.value,
  ) refl;
}
