use Rattle.std.proofs.Common.{◌≤◌, ◌==◌}
use Rattle.std.proofs.lemmas.List.Elements.{All-filter}
use Rattle.rv_asm.specs.declared.locals.LocalLabel.{LocalLabel}
use Rattle.rv_asm.proofs.locals.Locals.define.Goals as goal

pub file-filed-requires : goal.file-filed-requires
file-filed-requires c =
    rw (c.self.invariant c.args.label.number, c.self.view_is)
    (All-filter (λ (d : LocalLabel). d.number == c.args.label.number) (λ (d : LocalLabel). d.line ≤ c.args.label.line)
    c.args.self.now c.requires)
