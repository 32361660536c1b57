use Rattle.std.proofs.Common.{◌∙◌, arith}
use Rattle.rv_tokens.proofs.Escapes.{first_byte_within}
use Rattle.rv_tokens.proofs.literal.first_byte.Goals as goal

pub returns-clause-longest : goal.returns-clause-longest
returns-clause-longest c = c.longest_byte.ensures.longest
    ∙ first_byte_within c.args.text.now c.min.result (grind arith) (λ m p q. grind arith)
