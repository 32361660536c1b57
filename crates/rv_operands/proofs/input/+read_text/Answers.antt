use Rattle.std.proofs.Common.{◌∙◌, sym, ap}
use Rattle.std.proofs.lemmas.List.{append-nil}
use Rattle.std.specs.Prelude.{Some}
use Rattle.rv_operands.proofs.Inputs.{and_more, bad_escape, good_escape, lone, no_text, plain}
use Rattle.rv_operands.proofs.input.+read_text.Goals as goal

pub returns-in_default : goal.returns-in_default
returns-in_default t c = rw (no_text c.args.text.now c.in_default.len_below) (ap (λ xs. Some xs) (append-nil _))

pub returns-then-first-ne92 : goal.returns-then-first-ne92
returns-then-first-ne92 t c = and_more _ _ _ _ _ _ c.read_text.result c.in_ok-push.ensures
    (plain c.args.text.now c.in-len1-up.len_at_least c.if-first-ne92.true) c.read_text.ensures

pub returns-in_default-rest : goal.returns-in_default-rest
returns-in_default-rest t c =
    lone c.args.text.now c.in-len1-up.len_at_least c.if-first-ne92.false c.in_default-rest.len_below

pub returns-in_default-escaped : goal.returns-in_default-escaped
returns-in_default-escaped t c =
    bad_escape c.args.text.now c.in-len1-up.len_at_least c.if-first-ne92.false c.in-len1-up-rest.len_at_least
    (sym c.escaped.ensures ∙ c.in_default-escaped.is)

pub returns : goal.returns
returns t c = and_more _ _ _ _ _ _ c.read_text-2.result c.in_ok-push-2.ensures
    (good_escape c.args.text.now c.in-Some.byte c.in-len1-up.len_at_least c.if-first-ne92.false
    c.in-len1-up-rest.len_at_least (sym c.escaped.ensures ∙ c.in-Some.is)) c.read_text-2.ensures
