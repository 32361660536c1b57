use Rattle.std.proofs.Common.{◌^◌, rules, arith}
use Rattle.rv_isa.specs.Number.{modulo}
use Rattle.rv_asm.specs.Listing.{emitted}
use Rattle.rv_asm.specs.Values.{gap}
use Rattle.rv_asm.proofs.Rows.{padded}
use Rattle.rv_asm.proofs.extent.size_of.Goals as goal

pub returns-in-Align : goal.returns-in-Align
unfolding emitted
returns-in-Align c = rw c.in-Align.is (padded _ (gap c.args.here (2 ^ modulo c.args.constant (2 ^ 32))) (search rules) (omega arith))
