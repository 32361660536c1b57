use Rattle.std.proofs.Common.{rules, ◌≡◌}
use Rattle.std.specs.Prelude.{Some}
use Rattle.rv_source.specs.Support.Forms.{form_of}
use Rattle.rv_source.specs.Support.Partial.{pieces_after}
use Rattle.rv_source.proofs.Pieces.{after_comma, operands_more}
use Rattle.rv_source.proofs.operand.+read_more.Goals as goal

pub returns : goal.returns
returns t c =
    let is : form_of c.cut.result.0.now ≡ Some c.in-Some.form = search rules in
    let more = operands_more c.args.out.now.items c.args.first c.cut.result.0.now (pieces_after c.cut.result.1.now)
    c.in-Some.form is in
    let rest = after_comma c.cut.result.1.now c.in-len1-up.len_at_least in
    rw (c.cut.ensures.pieces, more, rest, ← c.in_ok-push.ensures.items) c.read_more.ensures
