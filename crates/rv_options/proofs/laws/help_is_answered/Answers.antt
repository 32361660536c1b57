use Rattle.rv_options.proofs.Help.{long_help, short_help}
use Rattle.rv_options.proofs.laws.help_is_answered.Goals as goal

pub returns-clause-long : goal.returns-clause-long
returns-clause-long c = long_help

pub returns-clause-short : goal.returns-clause-short
returns-clause-short c = short_help
