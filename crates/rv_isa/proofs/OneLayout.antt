-- An instruction has one layout: `kind_of` undoes `fields_of`, whose fields are in range if the kind is.
use Rattle.std.proofs.Common.{◌≡◌, arith}
use Rattle.rv_isa.specs.Fields.{kind_of, AreInRange}
use Rattle.rv_isa.specs.Support.Kinds.{fields_of, IsInRange}
use Rattle.rv_isa.specs.declared.kind.Kind.{Kind}
use Rattle.rv_isa.specs.declared.kind.Kind.TheVariants.{Branch, Load, Store, OpImm, Shift, Op, Csr, CsrImm}
use Rattle.rv_isa.specs.declared.op.Cond.TheVariants as cond
use Rattle.rv_isa.specs.declared.op.LoadOp.TheVariants as loads
use Rattle.rv_isa.specs.declared.op.Width.TheVariants as width
use Rattle.rv_isa.specs.declared.op.ImmOp.TheVariants as immediate
use Rattle.rv_isa.specs.declared.op.ShiftOp.TheVariants as shift
use Rattle.rv_isa.specs.declared.op.AluOp.TheVariants as alu
use Rattle.rv_isa.specs.declared.op.CsrOp.TheVariants as csr

layout : (k : Kind) → IsInRange k → (kind_of (fields_of k) ≡ k) × AreInRange (fields_of k)
unfolding kind_of fields_of
layout (Branch cond.Eq _ _ _) r = (grind arith, grind arith)
layout (Load loads.Lb _ _ _) r = (grind arith, grind arith)
layout (Store width.One _ _ _) r = (grind arith, grind arith)
layout (OpImm immediate.Addi _ _ _) r = (grind arith, grind arith)
layout (Shift shift.Slli _ _ _) r = (grind arith, grind arith)
layout (Op alu.Add _ _ _) r = (grind arith, grind arith)
layout (Csr csr.Write _ _ _) r = (grind arith, grind arith)
layout (CsrImm csr.Write _ _ _) r = (grind arith, grind arith)
layout k r = (grind arith, grind arith)

pub kept : (k : Kind) → IsInRange k → kind_of (fields_of k) ≡ k
kept k r = (layout k r).0

pub fields_in_range : (k : Kind) → IsInRange k → AreInRange (fields_of k)
fields_in_range k r = (layout k r).1
