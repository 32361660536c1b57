use Rattle.rv_monitor.proofs.Reached.{given_stands}
use Rattle.rv_monitor.proofs.session.given_as_listed.Goals as goal

pub returns-clause-reached : goal.returns-clause-reached
returns-clause-reached c board s input r = given_stands board s input r
