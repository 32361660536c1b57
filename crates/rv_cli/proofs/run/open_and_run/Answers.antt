use Rattle.rv_cli.proofs.Conversions.{run_ends}
use Rattle.rv_cli.proofs.run.open_and_run.Goals as goal

pub returns-clause-ok : goal.returns-clause-ok
returns-clause-ok c =
    run_ends c.args.texts.now c.args.options _ _ c.in_ok-session.ensures.ok c.in_ok-printed.ensures
