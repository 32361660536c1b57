use Rattle.rv_options.proofs.Meaning.{usage_meaning}
use Rattle.rv_options.proofs.laws.usages_have_a_meaning.Goals as goal

pub returns : goal.returns
returns c = usage_meaning
