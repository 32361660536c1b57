use Rattle.std.proofs.Common.{◌≡◌, ◌++◌, drop}
use Rattle.rv_elf.specs.Support.LineBytes.{rows_bytes, AreSmall}
use Rattle.rv_elf.specs.LineNumbers.{Rises}
use Rattle.rv_elf.proofs.lines.program_of.Given as goal

abbrev pub invariant-loop-placed : goal.invariant-loop-placed
invariant-loop-placed l = record {
  bytes : l.out.items ++ rows_bytes l.from (drop l.placed-index l.lines) ≡ rows_bytes 1 l.lines;
  small : AreSmall (drop l.placed-index l.lines) → AreSmall l.lines;
  rises : Rises l.from (drop l.placed-index l.lines);
}
