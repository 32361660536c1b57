use Rattle.std.proofs.Common.{◌≡◌, ◌++◌, ◌+◌, drop, length}
use Rattle.rv_elf.specs.Support.Written.{section_headers, bodies, AreSmall}
use Rattle.rv_elf.proofs.file.append_section_headers.Given as goal

abbrev pub invariant-loop-section : goal.invariant-loop-section
invariant-loop-section l = record {
  headers : l.out.items ++ section_headers l.at (drop l.section-index l.sections)
      ≡ l.fn.out.items ++ section_headers l.start l.sections;
  small : AreSmall (drop l.section-index l.sections) → AreSmall l.sections;
  end : l.at + length (bodies (drop l.section-index l.sections)) ≡ l.start + length (bodies l.sections);
}
