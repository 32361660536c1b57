use Rattle.std.proofs.Common.{rules, ◌≡◌, refl}
use Rattle.std.proofs.lemmas.Int.{to_z-of_z}
use mir.Syntax.{w32}
use mir.Val.{to_z, of_z, SFits}
use Rattle.rv_source.proofs.Ranges.{in_range}
use Rattle.rv_source.proofs.field.instruction.Goals as goal

pub with-requires : goal.with-requires
with-requires c =
    let rd = rw c.number.ensures.value at c.number.ensures.below in
    let rs1 = rw c.number-2.ensures.value at c.number-2.ensures.below in
    let rs2 = rw c.number-3.ensures.value at c.number-3.ensures.below in
    let csr = rw c.number-4.ensures.value at c.number-4.ensures.below in
    let before = rw c.number-5.ensures.value at c.number-5.ensures.below in
    let after = rw c.number-6.ensures.value at c.number-6.ensures.below in
    let fits : SFits w32 c.immediate.result = search rules in
    let back : to_z w32 (of_z w32 c.immediate.result) ≡ c.immediate.result = rw to_z-of_z refl in
    rw back (rw (c.immediate.ensures.value, c.kind.ensures)
    (in_range c.args.operation c.args.fields.now rd rs1 rs2 c.immediate.ensures.given csr before after))
