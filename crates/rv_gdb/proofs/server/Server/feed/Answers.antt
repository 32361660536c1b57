use Rattle.std.proofs.Common.{rules, arith}
use Rattle.rv_gdb.proofs.Talking.{fed_state}
use Rattle.rv_gdb.proofs.server.Server.feed.Goals as goal

pub returns-clause-stream : goal.returns-clause-stream
returns-clause-stream c =
    fed_state c.args.self.now c.loop-byte.self c.args.bytes.now c.loop-byte.byte-index c.args.out.now.items
    c.loop-byte.out.items c.loop-byte.invariant (first_of (search rules, omega arith))
