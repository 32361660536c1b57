use Rattle.std.proofs.Common.{◌≡◌, rules, length}
use Rattle.rv_base.specs.Lines.{lines}
use Rattle.rv_asm.specs.Assembly.{all_parsed}
use Rattle.rv_asm.specs.Support.Steps.{located}
use Rattle.rv_asm.proofs.Lined.{are_lines}
use Rattle.rv_asm.proofs.listing.list.Goals as goal

pub returns : goal.returns
returns c =
    let texts = lines c.args.source.now in
    let is : c.of.result ≡ located (all_parsed texts) (length texts) = search rules in
    let l = are_lines c.args.source.now c.in_ok-program.program c.in_ok-program.ensures.program in
    rw is (record { value = l.value; bytes = l.each; image = l.all; end = l.end })
