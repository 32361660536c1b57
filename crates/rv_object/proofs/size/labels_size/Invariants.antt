use Rattle.std.proofs.Common.{◌≡◌, ◌+◌, ◌<◌, drop, map}
use Rattle.rv_elf.specs.Size.{symbols_size}
use Rattle.rv_object.proofs.size.labels_size.Given as goal

abbrev pub invariant-loop-label : goal.invariant-loop-label
invariant-loop-label l = record {
  sum : l.size + symbols_size (map (λ p. p.0) (drop l.label-index l.labels)) ≡ symbols_size (map (λ p. p.0) l.labels);
  fits : l.size < 4294967296;
}
