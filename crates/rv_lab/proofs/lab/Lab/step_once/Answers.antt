use Rattle.std.proofs.Common.{◌∙◌, ap, refl}
use Rattle.rv_lab.specs.declared.lab.Done.{Done}
use Rattle.rv_lab.specs.declared.order.Order.TheVariants as orders
use Rattle.rv_lab.proofs.Obeyed.{executed_short}
use Rattle.rv_lab.proofs.Told.{did_step}
use Rattle.rv_lab.proofs.lab.Lab.step_once.Goals as goal

pub returns-in-Some : goal.returns-in-Some
returns-in-Some c = executed_short orders.Once c.args.self.now _ _
    (rw (c.tell_console.ensures, c.in_ok-step.ensures.step, c.begin.ensures, c.keep_count.ensures) refl)
    (ap (λ (d : Done). d.next) c.more.ensures) (ap (λ (d : Done). d.answer) c.more.ensures ∙ did_step c.args.self.now
    _ _ _ _ _ _ c.keep_count.ensures c.begin.ensures c.in_ok-step.ensures.value c.in-Some.is c.standing-standing.ensures) tt
