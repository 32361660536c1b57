use Rattle.std.proofs.Common.{arith, rules}
use Rattle.std.specs.Prelude.{Ok}
use Rattle.std.proofs.lemmas.Result.{err_from_is_err_and}
use Rattle.rv_asm.specs.Lines.{listing_of}
use Rattle.rv_lab.proofs.Faults.{fails, made_of, opening_refused, opens_by, source_refused}
use Rattle.rv_lab.proofs.lab.Lab.open.Goals as goal

pub returns-in_err-program-clause-err : goal.returns-in_err-program-clause-err
returns-in_err-program-clause-err c =
    let e = err_from_is_err_and c.from_residual.result c.from_residual.ensures.1 in
    rw (e.1, e.2) (source_refused c.args.source.now c.args.inputs.now c.args.sizes.pages c.args.sizes.slots
    c.in_err-program.field-0.0 (fails c.args.source.now c.in_err-program.field-0.0 c.in_err-program.ensures.value))

pub returns-in_err-recording-clause-err : goal.returns-in_err-recording-clause-err
returns-in_err-recording-clause-err c = search (rules, arith, opening_refused, opens_by, made_of, err_from_is_err_and)

pub returns-clause-opens : goal.returns-clause-opens
returns-clause-opens c =
    let made = made_of c.args.source.now (listing_of c.in_ok-program.program c.in_ok-program.places)
    c.in_ok-program.ensures.value in
    opens_by c.args.source.now c.args.inputs.now c.args.sizes.pages c.args.sizes.slots c.in_ok-program.program
    c.from-pages.result c.from-slots.result (Ok c.in_ok-recording.recording.session) made
    (omega (arith, c.from-pages.ensures)) (omega (arith, c.from-slots.ensures)) c.in_ok-recording.ensures.ok
