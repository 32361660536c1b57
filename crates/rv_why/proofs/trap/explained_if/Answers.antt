use Rattle.std.proofs.Common.{◌∙◌, sym}
use Rattle.rv_why.proofs.Told.{found_it, trap_is}
use Rattle.rv_why.proofs.trap.explained_if.Goals as goal

pub explained-requires : goal.explained-requires
explained-requires c = let it = found_it _ _ (sym c.in-Some.is ∙ c.requires) in record { within = it.0; is = it.1 }

pub returns-in-Some : goal.returns-in-Some
returns-in-Some c = rw (← trap_is c.args.recording.now _ (sym c.in-Some.is ∙ c.requires)) c.explained.ensures

pub returns-in-None : goal.returns-in-None
returns-in-None c = trap_is c.args.recording.now _ (sym c.in-None.is ∙ c.requires)
