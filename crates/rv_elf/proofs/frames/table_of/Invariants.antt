use Rattle.std.proofs.Common.{◌≡◌, ◌++◌, ◌+◌, drop, length}
use Rattle.std.specs.List.{flat_map}
use Rattle.rv_elf.specs.Support.FrameBytes.{entry_bytes, frames_bytes, AreShort}
use Rattle.rv_elf.proofs.frames.table_of.Given as goal

abbrev pub invariant-loop-function : goal.invariant-loop-function
invariant-loop-function l = record {
  bytes : l.out.items ++ flat_map entry_bytes (drop l.function-index l.functions) ≡ frames_bytes l.functions;
  short : AreShort (drop l.function-index l.functions) → AreShort l.functions;
  size : length l.out.items + length (flat_map entry_bytes (drop l.function-index l.functions)) ≡ length (frames_bytes l.functions);
}
