use Rattle.std.proofs.Common.{◌≡◌, ◌∙◌, ap}
use Rattle.rv_base.specs.Tables.{lookup}
use Rattle.rv_program.specs.Support.Kept.{definitions_of}
use Rattle.rv_program.proofs.Lookups.{lookup_value, word_of_name}
use Rattle.rv_program.proofs.names.Names.value.Goals as goal
use Rattle.rv_program.proofs.names.Names.value.Goals.{After-copied}

found : (c : After-copied)
    → c.copied.result ≡ lookup c.args.name.now (definitions_of c.self.inside.map.entries)
found c = (c.copied.ensures ∙ c.get.ensures.value) ∙ lookup_value c.self.inside.map.entries c.args.name.now

pub returns-clause-value : goal.returns-clause-value
returns-clause-value c = found c ∙ ap (λ ds. lookup c.args.name.now ds) c.self.view_is

pub returns-clause-word : goal.returns-clause-word
returns-clause-word c =
    rw (found c) (word_of_name (definitions_of c.self.inside.map.entries) c.args.name.now c.self.invariant)
