-- Not to audit: proofs alone cite this.
-- The columns of the table of loads.
use Rattle.std.specs.Prelude.{ℕ}
use Rattle.rv_isa.specs.Alu.{load_of}
use Rattle.rv_isa.specs.declared.op.LoadOp.{LoadOp}
use Rattle.rv_isa.specs.declared.op.Width.{Width}

-- how many bytes a load reads
abbrev pub load_width : LoadOp → Width
load_width op = (load_of op).0

-- the value that a load leaves in its register, by the bytes that it read
abbrev pub load_value : LoadOp → ℕ → ℕ
load_value op v = (load_of op).1 v
