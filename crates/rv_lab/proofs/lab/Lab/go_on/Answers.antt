use Rattle.std.proofs.Common.{◌∙◌, sym}
use Rattle.rv_lab.proofs.Obeyed.{continued}
use Rattle.rv_lab.proofs.lab.Lab.go_on.Goals as goal

pub returns-in_err-next-clause-err : goal.returns-in_err-next-clause-err
returns-in_err-next-clause-err c =
    continued _ _ c.args.self.now c.go_on_with.new.self _ (sym c.plan.ensures ∙ c.in-Some.is) c.in_err-next.ensures
