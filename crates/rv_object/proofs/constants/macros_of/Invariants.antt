use Rattle.std.proofs.Common.{◌+◌, ◌^◌, ◌≤◌}
use Rattle.rv_elf.specs.Size.{macros_size}
use Rattle.rv_object.proofs.constants.macros_of.Given as goal

abbrev pub invariant-loop-name : goal.invariant-loop-name
invariant-loop-name l = macros_size l.out.items + l.room ≤ 12 + 2 ^ 28
