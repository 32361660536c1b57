use Rattle.std.proofs.Common.{◌≡◌, ◌≤◌, ◌-◌, length, vec_len}
use Rattle.std.specs.Io.KnownBytes.{Consumes}
use Rattle.rv_io.proofs.text.read_text.Given as goal

abbrev pub invariant-loop-count : goal.invariant-loop-count
invariant-loop-count g l = record {
  gave : Consumes (g.R.TextIn.left l.initial.reader) (g.R.TextIn.left l.reader) l.text.items;
  within : vec_len l.text ≤ 16777216;
  sound : g.R.TextIn.has_failed l.reader ≡ g.R.TextIn.has_failed l.initial.reader;
  room : length l.buffer ≡ 8192;
}

abbrev pub decreases-loop-count : goal.decreases-loop-count
decreases-loop-count g l = 16777216 - vec_len l.text
