use Rattle.std.proofs.Common.{rules, ◌≡◌, ◌∙◌, ap, sym, refl, Bool, true, false, ℤ}
use Rattle.std.specs.Prelude.{is_some}
use Rattle.std.specs.Bool.{then_some}
use Rattle.std.proofs.lemmas.Int.{to_z-of_z}
use mir.Syntax.{w64}
use mir.Val.{SFits}
use Rattle.rv_asm.specs.Listing.{Emitted}
use Rattle.rv_asm.specs.Support.Statements.{IsKnown, values_in}
use Rattle.rv_asm.proofs.Rows.{row_is}
use Rattle.rv_asm.proofs.extent.constant.Goals as goal

then_is : (b : Bool) (v : ℤ) → b ≡ is_some (then_some b v)
then_is true v = refl
then_is false v = refl

pub returns-clause-some : goal.returns-clause-some
unfolding IsKnown
returns-clause-some c =
    let known : IsKnown (values_in c.args.scope) c.in_ok-value.value c.args.statement.now = search rules in
    let fits : SFits w64 c.in_ok-value.value = search rules in
    ap (λ (r : Emitted). r.is_known) (row_is _ _ c.args.scope.here _ known)
    ∙ sym (simp to_z-of_z at (c.is_taken.ensures c.args.scope.here))
    ∙ rw c.then_some.ensures (then_is c.is_taken.result _)
