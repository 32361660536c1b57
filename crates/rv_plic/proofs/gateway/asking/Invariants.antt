use Rattle.rv_plic.specs.Support.GatewayState.{asks}
use Rattle.rv_plic.proofs.Those.{HasThoseBelow}
use Rattle.rv_plic.proofs.gateway.asking.Given as goal

-- the set has the sources that ask of the numbers so far
abbrev pub invariant-loop-number : goal.invariant-loop-number
invariant-loop-number l = HasThoseBelow l.number (asks l.high l.edges) l.asking
