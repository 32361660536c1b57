use Rattle.std.proofs.Common.{rules}
use Rattle.rv_elf.proofs.Found.{are_found}
use Rattle.rv_elf.proofs.object.write_sections.Goals as goal

pub returns-clause-found : goal.returns-clause-found
returns-clause-found c = are_found _ c.args.count _ (search rules) (search rules)
