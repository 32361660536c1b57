use Rattle.std.proofs.Common.{◌≡◌, ◌++◌}
use Rattle.rv_asm.specs.Listing.{bytes}
use Rattle.rv_asm.specs.Support.Statements.{nops}
use Rattle.rv_asm.proofs.data.write_nops.Given as goal

abbrev pub invariant-loop : goal.invariant-loop
invariant-loop l = l.out.items ≡ l.fn.out.items ++ bytes (nops l.counter)
