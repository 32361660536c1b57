use Rattle.std.proofs.Common.{rules}
use Rattle.rv_elf.proofs.frames.append_entry.Goals as goal

pub returns-clause-short : goal.returns-clause-short
returns-clause-short c = record { start = search rules; size = search rules; entry = c.in-Some.ensures.0 }
