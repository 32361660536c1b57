use Rattle.std.proofs.Common.{◌≡◌, ◌++◌, drop}
use Rattle.rv_elf.specs.Support.Written.{words}
use Rattle.rv_elf.proofs.bytes.append_words.Given as goal

abbrev pub invariant-loop-word : goal.invariant-loop-word
invariant-loop-word l = l.out.items ++ words (drop l.word-index l.numbers) ≡ l.fn.out.items ++ words l.numbers
