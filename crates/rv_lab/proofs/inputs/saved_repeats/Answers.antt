use Rattle.rv_lab.proofs.Laws.{repeats}
use Rattle.rv_lab.proofs.inputs.saved_repeats.Goals as goal

pub returns : goal.returns
returns c first s program limit new r most t = repeats first s program limit r most new t
