use Rattle.std.proofs.Common.{rules}
use Rattle.rv_cli.proofs.Refusals.{cut_short, ended}
use Rattle.rv_cli.proofs.run.run_text.Goals as goal

pub returns-in_err-write_whole-clause-runs : goal.returns-in_err-write_whole-clause-runs
returns-in_err-write_whole-clause-runs g c =
    cut_short _ _ c.args.options _ c.in_ok-texts.texts _ _ _ c.from_residual-in_err-write_whole.ensures.1
    c.in_ok-texts.ensures.read c.in_ok-printed.ensures.ok c.as_slice.ensures.value (search rules)

pub returns-clause-runs : goal.returns-clause-runs
returns-clause-runs g c =
    ended _ _ c.args.options c.in_ok-texts.texts _ _ _ c.in_ok-texts.ensures.read c.in_ok-printed.ensures.ok
    c.as_slice.ensures.value (search rules)
