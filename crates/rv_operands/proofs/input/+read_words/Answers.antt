use Rattle.std.proofs.Common.{◌∙◌, sym, ap}
use Rattle.rv_base.specs.Words.{words}
use Rattle.std.proofs.lemmas.List.{append-nil}
use Rattle.std.specs.Prelude.{Some}
use Rattle.rv_operands.proofs.Inputs.{and_more, bad_word, good_word, no_words}
use Rattle.rv_operands.proofs.input.+read_words.Goals as goal

pub returns-in_default : goal.returns-in_default
returns-in_default t c = rw (no_words (words c.args.text.now) c.in_default.ensures.value) (ap (λ xs. Some xs) (append-nil _))

pub returns-in_default-hex_byte : goal.returns-in_default-hex_byte
returns-in_default-hex_byte t c =
    bad_word c.in-Some.word.now (words c.in-Some.rest.now) (words c.args.text.now) c.in-Some.ensures.value
    (sym c.hex_byte.ensures ∙ c.in_default-hex_byte.is)

pub returns : goal.returns
returns t c = and_more _ _ _ _ _ _ c.read_words.result c.in_ok-push.ensures
    (good_word c.in-Some.word.now (words c.in-Some.rest.now) (words c.args.text.now) c.in-Some-hex_byte.byte
    c.in-Some.ensures.value (sym c.hex_byte.ensures ∙ c.in-Some-hex_byte.is)) c.read_words.ensures
