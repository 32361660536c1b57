use Rattle.rv_cli.proofs.OneOutput.{some_output}
use Rattle.rv_cli.proofs.laws.one_output.Goals as goal

pub returns-clause-some : goal.returns-clause-some
returns-clause-some c texts options = some_output texts options
