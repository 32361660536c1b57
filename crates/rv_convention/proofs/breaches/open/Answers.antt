use Rattle.rv_convention.specs.Convention.{calls_after}
use Rattle.rv_convention.proofs.breaches.open.Goals as goal

pub returns : goal.returns
unfolding calls_after
returns c = rw (c.make_room.ensures, c.registers_of.ensures) at c.push.ensures
