use Rattle.std.proofs.Common.{◌≡◌, ◌+◌, drop, length}
use Rattle.rv_elf.specs.Size.{macros_size}
use Rattle.rv_elf.proofs.macros.append_macros.Given as goal

abbrev pub invariant-loop-each : goal.invariant-loop-each
invariant-loop-each l =
    length l.out.items + macros_size (drop l.each-index l.macros) ≡ length l.fn.out.items + macros_size l.macros
