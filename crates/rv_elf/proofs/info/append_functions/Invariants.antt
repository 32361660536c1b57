use Rattle.std.proofs.Common.{◌≡◌, ◌+◌, drop, length}
use Rattle.rv_elf.specs.Size.{functions_size}
use Rattle.rv_elf.proofs.info.append_functions.Given as goal

abbrev pub invariant-loop-symbol : goal.invariant-loop-symbol
invariant-loop-symbol l =
    length l.out.items + functions_size (drop l.symbol-index l.symbols) ≡ length l.fn.out.items + functions_size l.symbols
