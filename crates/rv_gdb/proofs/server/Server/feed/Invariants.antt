use Rattle.rv_gdb.proofs.Talking.{Fed}
use Rattle.rv_gdb.proofs.server.Server.feed.Given as goal

abbrev pub invariant-loop-byte : goal.invariant-loop-byte
invariant-loop-byte l = Fed l.fn.self l.self l.bytes l.byte-index l.fn.out.items l.out.items
