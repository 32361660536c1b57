use Rattle.rv_lab.proofs.Obeyed.{started}
use Rattle.rv_lab.proofs.lab.Lab.start.Goals as goal

pub returns : goal.returns
returns c = started _ c.args.self.now _ _ _ c.begin.ensures c.go_on_with.ensures
