-- The codes of operations fit their places.
use Rattle.std.proofs.Common.{arith}
use Rattle.rv_isa.specs.Support.Codes.{codes_of, CodesFit}
use Rattle.rv_isa.specs.Table.{row}
use Rattle.rv_isa.specs.declared.op.Operation.{Operation}
use Rattle.rv_isa.specs.declared.op.Operation.TheVariants as o

pub codes_fit : (x : Operation) → CodesFit (codes_of (row x).1)
codes_fit o.Lui = grind arith
codes_fit x = grind arith
