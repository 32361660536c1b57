use Rattle.std.proofs.Common.{rules}
use Rattle.std.proofs.lemmas.Int.{to_z-of_z}
use mir.Syntax.{w64}
use mir.Val.{SFits}
use Rattle.rv_asm.specs.Support.Steps.{fault_on}
use Rattle.rv_asm.proofs.Examining.{added_steps}
use Rattle.rv_asm.proofs.layout.Known.add.Goals as goal

pub returns : goal.returns
unfolding fault_on
returns c =
    let fits : SFits w64 c.in-Ok.extent.constant = search rules in
    search (rules, added_steps, simp to_z-of_z at c.in_ok-item.ensures.bytes)
