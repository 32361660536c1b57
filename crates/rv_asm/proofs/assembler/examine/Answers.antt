use Rattle.std.proofs.Common.{rules, ◌≡◌, cond}
use Rattle.std.specs.Prelude.{is_some, slice_get}
use Rattle.rv_asm.proofs.Counting.{found_in}
use Rattle.rv_asm.proofs.Examining.{examined}
use Rattle.rv_asm.proofs.assembler.examine.Goals.{then-is_some, else-is_some}
use Rattle.rv_asm.proofs.assembler.examine.Goals as goal

pub returns : goal.returns
returns c =
    let one = c.in_ok-known.field-0.unread.items in
    let two = c.in_ok-known.field-0.misplaced.items in
    let old : c.if-is_some.faults.items ≡ cond (is_some (slice_get one 0)) one two =
    elim c.if-is_some.branch [ then-is_some w ↦ search rules | else-is_some w ↦ search rules ] in
    examined c.args.source.now c.args.notes _ c.in_ok-known.ensures _ _
    (found_in one two _ _ _ old (rw (c.symbols.ensures, c.deref-2.ensures.value) at c.in_ok-bytes.ensures.faults))
    (rw (c.symbols.ensures, c.deref-2.ensures.value) at c.in_ok-bytes.ensures.bytes)
