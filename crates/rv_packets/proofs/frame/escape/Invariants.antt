use Rattle.std.proofs.Common.{◌≡◌, ◌++◌, drop}
use Rattle.rv_packets.specs.Items.{escaped}
use Rattle.rv_packets.proofs.frame.escape.Given as goal

abbrev pub invariant-loop-byte : goal.invariant-loop-byte
invariant-loop-byte l = l.out.items ++ escaped (drop l.byte-index l.contents) ≡ escaped l.contents
