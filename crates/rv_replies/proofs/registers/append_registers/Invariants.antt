use Rattle.std.proofs.Common.{◌≡◌, ◌-◌, ◌++◌}
use Rattle.rv_replies.specs.Texts.{registers_from}
use Rattle.rv_replies.proofs.registers.append_registers.Given as goal

abbrev pub invariant-loop-number : goal.invariant-loop-number
invariant-loop-number l =
    l.out.items ++ registers_from l.board l.number (32 - l.number) ≡ l.fn.out.items ++ registers_from l.board 0 32
