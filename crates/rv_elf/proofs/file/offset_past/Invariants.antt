use Rattle.std.proofs.Common.{◌≡◌, ◌+◌, ◌<◌, drop, length}
use Rattle.rv_elf.specs.Support.Written.{bodies}
use Rattle.rv_elf.proofs.file.offset_past.Given as goal

abbrev pub invariant-loop-section : goal.invariant-loop-section
invariant-loop-section l = record {
  sum : l.at + length (bodies (drop l.section-index l.sections)) ≡ l.start + length (bodies l.sections);
  fits : l.at < 4294967296;
}
