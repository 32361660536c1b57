use Rattle.std.proofs.Common.{length}
use Rattle.rv_source.proofs.reader.+read_labels.Given as goal

abbrev pub decreases-read_labels : goal.decreases-read_labels
decreases-read_labels l = length l.line.now
