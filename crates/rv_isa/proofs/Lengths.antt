-- How long the text of an instruction is.
use Rattle.std.proofs.Common.{rules, ℕ, ◌^◌, ◌<◌, ◌≤◌, ◌≡◌, length, subst, sym, arith, length-append}
use Rattle.std.proofs.lemmas.Fmt.{length-decimal-le, length_signed_le}
use Rattle.std.specs.Prelude.{ℤ}
use Rattle.std.specs.Fmt.{decimal, signed_decimal}
use Rattle.rv_isa.specs.Number.{IsWithin}
use Rattle.rv_isa.specs.Formats.{in_format}
use Rattle.rv_isa.specs.Table.{mnemonic, row}
use Rattle.rv_isa.specs.Fields.{kind_of}
use Rattle.rv_isa.proofs.OneLayout.{kept}
use Rattle.rv_isa.specs.declared.fields.Fields.{Fields}
use Rattle.rv_isa.specs.declared.op.Operation.{Operation}
use Rattle.rv_isa.specs.declared.op.Operation.TheVariants as o
use Rattle.rv_isa.specs.Support.Kinds.{fields_of, IsInRange}
use Rattle.rv_isa.specs.Text.{target, register_text, text}
use Rattle.rv_isa.specs.declared.kind.Kind.{Kind}
use Rattle.rv_base.proofs.Hexadecimal.{hex_length}
use Rattle.rv_base.specs.Digits.{short_hex}

-- ---- operands

-- numbers of five bits
small_length : (n : ℕ) → n < 32 → length (decimal n) ≤ 2
small_length n h = length-decimal-le 2 n (omega arith) (omega arith) (omega arith)

register_length : (n : ℕ) → n < 32 → length (register_text n) ≤ 3
register_length n h = omega (arith, small_length n h)

-- hexadecimal numbers of twenty and of twelve bits
upper_length : (n : ℕ) → n < 2 ^ 20 → length (short_hex n) ≤ 7
upper_length n h = omega (arith, hex_length 4 n (omega arith) (omega arith))

csr_number_length : (n : ℕ) → n < 2 ^ 12 → length (short_hex n) ≤ 5
csr_number_length n h = omega (arith, hex_length 2 n (omega arith) (omega arith))

immediate_length : (z : ℤ) → IsWithin (2 ^ 11) z → length (signed_decimal z) ≤ 5
immediate_length z h = search (rules, length_signed_le 4 z)

branch_length : (z : ℤ) → IsWithin (2 ^ 12) z → length (target z) ≤ 6
branch_length z h = search (rules, length-decimal-le 4)

jump_length : (z : ℤ) → IsWithin (2 ^ 20) z → length (target z) ≤ 9
jump_length z h = search (rules, length-decimal-le 7)

-- ---- lines

ruleset lengths = (small_length, register_length, upper_length, csr_number_length, immediate_length, branch_length, jump_length)

by_operation : (x : Operation) (f : Fields) → IsInRange (in_format (row x).1 f).kind
    → length (text (in_format (row x).1 f).kind) ≤ 19
unfolding text mnemonic
by_operation o.Lui f r = simp length-append (grind (arith, lengths))
by_operation x f r = simp length-append (grind (arith, lengths))

pub text_length : (k : Kind) → IsInRange k → length (text k) ≤ 19
unfolding kind_of
text_length k r =
    let f = fields_of k in
    let same : (in_format (row f.operation).1 f).kind ≡ k = kept k r in
    subst (λ k. length (text k) ≤ 19) same (by_operation f.operation f (subst IsInRange (sym same) r))
