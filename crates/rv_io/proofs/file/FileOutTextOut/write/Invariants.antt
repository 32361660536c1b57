use Rattle.std.proofs.Common.{◌≡◌}
use Rattle.std.specs.Io.KnownBytes.{Keeps}
use Rattle.rv_io.proofs.file.FileOutTextOut.write.Given as goal

abbrev pub invariant-tries : goal.invariant-tries
invariant-tries g l = record {
  kept : Keeps l.fn.self.bytes (g.W.Write.contents l.self-inside.writer);
  sound : l.self-inside.has_failed ≡ l.fn.self.has_failed;
}
