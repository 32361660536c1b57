use Rattle.std.proofs.Common.{◌≡◌, length}
use Rattle.rv_requests.specs.Numbers.{bytes_of}
use Rattle.rv_requests.proofs.Decoding.{decoded}
use Rattle.rv_requests.proofs.text.read_text.Given as goal

abbrev pub invariant-loop-left : goal.invariant-loop-left
invariant-loop-left l = decoded l.bytes.items l.left ≡ bytes_of l.digits

abbrev pub decreases-loop-left : goal.decreases-loop-left
decreases-loop-left l = length l.left
