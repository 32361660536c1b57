use Rattle.std.proofs.Common.{rules, ◌≡◌}
use Rattle.std.specs.Prelude.{Ok}
use Rattle.rv_source.specs.Support.Partial.{form_by_parts}
use Rattle.rv_source.proofs.Forms.{as_read}
use Rattle.rv_source.proofs.reader.read_line_form.Goals as goal

pub returns-clause-form : goal.returns-clause-form
unfolding form_by_parts
returns-clause-form c =
    let is : form_by_parts c.args.text.now ≡ Ok (c.read_labels.new.out.items, c.in_ok-body.body) = search rules in
    as_read c.args.text.now (c.read_labels.new.out.items, c.in_ok-body.body) is
