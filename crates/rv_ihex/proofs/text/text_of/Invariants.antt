use Rattle.std.proofs.Common.{◌≡◌, ◌++◌, ◌+◌, ◌<◌, ◌≤◌, length}
use Rattle.rv_base.specs.Limits.{ram_base}
use Rattle.rv_ihex.specs.Support.Written.{lines_from, text_of}
use Rattle.rv_ihex.proofs.text.text_of.Given as goal

abbrev pub invariant-loop-rest : goal.invariant-loop-rest
invariant-loop-rest l = record {
  text : l.out.items ++ text_of (lines_from (length l.image) l.at l.rest)
      ≡ text_of (lines_from (length l.image) ram_base l.image);
  short : length l.rest ≤ length l.image;
  more : 0 < length l.rest → l.at + length l.rest ≤ 2164260864;
}

abbrev pub decreases-loop-rest : goal.decreases-loop-rest
decreases-loop-rest l = length l.rest
