use Rattle.std.proofs.lemmas.Result.{err_from_is_err_and}
use Rattle.rv_io.proofs.Unread.{commands_unread, inputs_unread, untouched}
use Rattle.rv_io.proofs.texts.read_texts.Goals as goal

pub returns-in_err-inputs-clause-read : goal.returns-in_err-inputs-clause-read
returns-in_err-inputs-clause-read g c =
    let e = err_from_is_err_and c.from_residual-in_err-inputs.result c.from_residual-in_err-inputs.ensures.1 in
    rw (e.1, e.2) (inputs_unread _ _ c.in_err-inputs.field-0.0 c.in_ok-source.ensures.ok c.in_err-inputs.ensures.err
    (untouched g.C.TextIn.left g.C.TextIn.has_failed c.args.commands.now c.requires.commands))

pub returns-in_err-commands-clause-read : goal.returns-in_err-commands-clause-read
returns-in_err-commands-clause-read g c =
    let e = err_from_is_err_and c.from_residual-in_err-commands.result c.from_residual-in_err-commands.ensures.1 in
    rw (e.1, e.2) (commands_unread _ _ _ c.in_err-commands.field-0.0 c.in_ok-source.ensures.ok
    c.in_ok-inputs.ensures.ok c.in_err-commands.ensures.err)
