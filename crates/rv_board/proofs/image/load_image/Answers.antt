use Rattle.std.proofs.Common.{rules, arith}
use Rattle.rv_board.proofs.Images.{one_byte, one_more_byte}
use Rattle.rv_board.proofs.image.load_image.Goals as goal

pub loop-i-preserved : goal.loop-i-preserved
loop-i-preserved g c = search (rules, arith, one_byte, one_more_byte)
