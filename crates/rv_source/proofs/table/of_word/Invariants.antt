use Rattle.std.proofs.Common.{◌≡◌, drop}
use Rattle.rv_tokens.specs.declared.fault.LineFault.TheVariants.{UnknownWord}
use Rattle.rv_source.specs.Support.Partial.{fitted_or, of_word, rows}
use Rattle.rv_source.proofs.table.of_word.Given as goal

abbrev pub invariant-loop-entry : goal.invariant-loop-entry
invariant-loop-entry l = fitted_or l.fault l.operands (of_word l.word (rows (drop l.entry-index l.table)))
    ≡ fitted_or UnknownWord l.operands (of_word l.word (rows l.table))
