-- An instruction of fields without those that its operation doesn't have.
use Rattle.std.proofs.lemmas.Bool.Decides.{nat_tests}
use Rattle.std.proofs.lemmas.Grind.{common_steps}
use Rattle.std.proofs.Common.{◌≡◌, ◌∙◌, ℕ, ℤ, pos, negsuc, refl, ap, sym, subst, SFits, w32, arith}
use Rattle.std.proofs.lemmas.Int.{to_z-of_z}
use Rattle.rv_isa.specs.Fields.{kind_of, with_fields}
use Rattle.rv_isa.specs.Formats.{in_format}
use Rattle.rv_isa.specs.Table.{row, Encoding, R}
use Rattle.rv_isa.specs.Support.Codes.{codes_of, normal}
use Rattle.rv_isa.specs.Support.Kinds.{fields_of, IsInRange}
use Rattle.rv_isa.specs.declared.fields.Fields.{Fields}
use Rattle.rv_isa.specs.declared.format.Codes.{Codes}
use Rattle.rv_isa.specs.declared.op.Operation.{Operation}
use Rattle.rv_isa.specs.declared.op.Operation.TheVariants as o

same_operation : (e : Encoding) (f : Fields) → (normal (codes_of e).format f).operation ≡ f.operation
same_operation (R _ _ _ _) f = refl
same_operation e f = refl

same_kind : (e : Encoding) (f : Fields) → (in_format e (normal (codes_of e).format f)).kind ≡ (in_format e f).kind
same_kind (R _ _ _ _) f = refl
same_kind e f = refl

kind : (f : Fields) → kind_of (normal (codes_of (row f.operation).1).format f) ≡ kind_of f
unfolding kind_of
kind f = grind (arith, nat_tests, common_steps, same_operation, same_kind)

fields : (x : Operation) (rd rs1 rs2 : ℕ) (imm : ℤ) → SFits w32 imm
    → IsInRange (in_format (row x).1 (with_fields x rd rs1 rs2 imm)).kind
    → fields_of (in_format (row x).1 (with_fields x rd rs1 rs2 imm)).kind
    ≡ normal (codes_of (row x).1).format (with_fields x rd rs1 rs2 imm)
unfolding fields_of
fields o.Lui rd rs1 rs2 (pos n) b r = let small = b.sfits in grind arith
fields x rd rs1 rs2 (pos n) b r = let small = b.sfits in grind arith
fields o.Lui rd rs1 rs2 (negsuc n) b r = let small = b.sfits in grind arith
fields x rd rs1 rs2 (negsuc n) b r = let small = b.sfits in grind arith

pub normal_kind : (f n : Fields) (c : Codes) → c ≡ codes_of (row f.operation).1 → n ≡ normal c.format f
    → kind_of n ≡ kind_of f
normal_kind f n c e is = ap kind_of (is ∙ ap (λ c. normal c.format f) e) ∙ kind f

pub normal_range : (f n : Fields) (c : Codes) → c ≡ codes_of (row f.operation).1 → n ≡ normal c.format f
    → IsInRange (kind_of f) → IsInRange (kind_of n)
normal_range f n c e is r = subst IsInRange (sym (normal_kind f n c e is)) r

pub normal_fields : (x : Operation) (rd rs1 rs2 : ℕ) (imm : ℤ) (n : Fields) (c : Codes) → SFits w32 imm
    → c ≡ codes_of (row x).1 → n ≡ normal c.format (with_fields x rd rs1 rs2 imm)
    → IsInRange (kind_of (with_fields x rd rs1 rs2 imm)) → fields_of (kind_of n) ≡ n
unfolding kind_of
normal_fields x rd rs1 rs2 imm n c b e is r = grind (arith, nat_tests, common_steps, kind, fields)

pub ruleset normal_laws = (normal_kind, normal_range, normal_fields, to_z-of_z)
