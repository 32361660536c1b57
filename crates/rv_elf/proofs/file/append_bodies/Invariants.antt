use Rattle.std.proofs.Common.{◌≡◌, ◌++◌, drop}
use Rattle.rv_elf.specs.Support.Written.{bodies}
use Rattle.rv_elf.proofs.file.append_bodies.Given as goal

abbrev pub invariant-loop-section : goal.invariant-loop-section
invariant-loop-section l = l.out.items ++ bodies (drop l.section-index l.sections) ≡ l.fn.out.items ++ bodies l.sections
