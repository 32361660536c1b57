use Rattle.rv_lab.proofs.Runs.{gave_nothing, gave_rest}
use Rattle.rv_runs.proofs.Parts.{on_err}
use Rattle.rv_lab.proofs.lab.Lab.+give_all.Goals as goal

pub returns-in_err-give-clause-err : goal.returns-in_err-give-clause-err
returns-in_err-give-clause-err t c =
    on_err _ _ (gave_nothing c.args.self.now _ c.args.inputs.now c.requires c.in_err-give.ensures.err)

pub returns-clause-err : goal.returns-clause-err
returns-clause-err t c =
    gave_rest c.give_all.result _ _ _ c.args.inputs.now _ c.in-len1-up.len_at_least c.input-item.is
    c.in_ok-give.ensures.given c.give_all.ensures.err
