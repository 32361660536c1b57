use Rattle.std.proofs.Common.{◌∙◌, ◌==◌, sym, ap, arith}
use Rattle.rv_lab.specs.Support.Rows.{char_at, text_length}
use Rattle.rv_lab.proofs.Values.{ends_at}
use Rattle.rv_lab.proofs.memory.text_length.Goals as goal

pub returns-then-char_at-eq0 : goal.returns-then-char_at-eq0
unfolding text_length
returns-then-char_at-eq0 c = sym (ends_at (λ offset. char_at c.args.board.now c.args.address offset == 0) c.args.most
    c.loop-offset.offset (omega (arith, c.loop-offset-test.true)) c.loop-offset.invariant
    (λ h. ap (λ x. x == 0) (sym c.char_at.ensures ∙ c.if-char_at-eq0.true)))
