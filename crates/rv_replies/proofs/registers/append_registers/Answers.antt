use Rattle.std.proofs.Common.{rules, arith}
use Rattle.rv_replies.proofs.Reading.{all_registers}
use Rattle.rv_replies.proofs.registers.append_registers.Goals as goal

pub returns : goal.returns
returns c =
    all_registers c.args.board.now c.args.out.now.items c.loop-number.out.items _ _ c.loop-number.number (omega arith)
    c.loop-number.invariant (first_of (search rules, cc))
