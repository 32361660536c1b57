-- The instructions of rows are in range.
use Rattle.std.proofs.Common.{◌^◌, ◌<◌, arith, rules}
use Rattle.rv_isa.specs.Fields.{kind_of}
use Rattle.rv_isa.specs.Support.Mnemonics.{zeroed, with_fields}
use Rattle.rv_isa.specs.Number.{IsWithin}
use Rattle.rv_isa.specs.Word.{IsInRange}
use Rattle.rv_isa.specs.declared.op.Operation.{Operation}
use Rattle.rv_source.specs.declared.field.Fields.{Fields}
use Rattle.rv_source.specs.Fields.{immediate_of}

pub in_range : (x : Operation) (f : Fields) → f.rd < 32 → f.rs1 < 32 → f.rs2 < 32 → IsWithin (2 ^ 11) f.imm
    → f.csr < 4096 → f.before < 16 → f.after < 16
    → IsInRange (kind_of (with_fields x f.rd f.rs1 f.rs2 (immediate_of (zeroed x) f)))
unfolding kind_of zeroed
in_range x f a b c h i j k = search (rules, arith)
