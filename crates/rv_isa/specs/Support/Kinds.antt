-- Not to audit: the laws of specs/Laws say what `operation_of`, `word` and `IsInRange` are, and the rest is
-- cited by private contracts and proofs alone.
-- The operation, the fields and the word of each kind: the table of instructions read backwards.
use Rattle.std.specs.Prelude.{◌≡◌, ◌≢◌, ℕ, ◌^◌, ◌<◌, pos, List, [], ◌∷◌, Option, Some, None}
use Rattle.rv_isa.specs.Fields.{encoded, with_fields}
use Rattle.rv_isa.specs.Number.{IsWithin, IsDistance}
use Rattle.rv_isa.specs.declared.fields.Fields.{Fields}
use Rattle.rv_isa.specs.declared.op.Operation.{Operation}
use Rattle.rv_isa.specs.declared.op.Operation.TheVariants.{Lui, Auipc, Jal, Jalr, Beq, Bne, Blt, Bge, Bltu, Bgeu, Lb, Lh, Lw, Lbu, Lhu, Sb, Sh, Sw, Addi, Slti, Sltiu, Xori, Ori, Andi, Slli, Srli, Srai, Add, Sll, Slt, Sltu, Xor, Srl, Or, And, Sub, Sra, Mul, Mulh, Mulhsu, Mulhu, Div, Divu, Rem, Remu, Fence, FenceI, Csrrw, Csrrs, Csrrc, Csrrwi, Csrrsi, Csrrci, Ecall, Ebreak, Mret, Wfi}
use Rattle.rv_isa.specs.declared.kind.Kind.{Kind}
use Rattle.rv_isa.specs.declared.kind.Kind.TheVariants as kind
use Rattle.rv_isa.specs.declared.op.Cond.TheVariants as cond
use Rattle.rv_isa.specs.declared.op.LoadOp.TheVariants as loads
use Rattle.rv_isa.specs.declared.op.Width.TheVariants as width
use Rattle.rv_isa.specs.declared.op.ImmOp.TheVariants as immediate
use Rattle.rv_isa.specs.declared.op.ShiftOp.TheVariants as shift
use Rattle.rv_isa.specs.declared.op.AluOp.TheVariants as alu
use Rattle.rv_isa.specs.declared.op.CsrOp.TheVariants as csr

-- every operation once
unfoldable pub operations : List Operation
operations =
    Lui ∷ Auipc ∷ Jal ∷ Jalr ∷ Beq ∷ Bne ∷ Blt ∷ Bge ∷ Bltu ∷ Bgeu ∷ Lb ∷ Lh ∷ Lw ∷ Lbu ∷ Lhu ∷ Sb ∷ Sh
    ∷ Sw ∷ Addi ∷ Slti ∷ Sltiu ∷ Xori ∷ Ori ∷ Andi ∷ Slli ∷ Srli ∷ Srai ∷ Add ∷ Sll ∷ Slt ∷ Sltu ∷ Xor
    ∷ Srl ∷ Or ∷ And ∷ Sub ∷ Sra ∷ Mul ∷ Mulh ∷ Mulhsu ∷ Mulhu ∷ Div ∷ Divu ∷ Rem ∷ Remu ∷ Fence ∷ FenceI
    ∷ Csrrw ∷ Csrrs ∷ Csrrc ∷ Csrrwi ∷ Csrrsi ∷ Csrrci ∷ Ecall ∷ Ebreak ∷ Mret ∷ Wfi ∷ []

-- the operation of a kind
abbrev pub operation_of : Kind → Operation
operation_of (kind.Lui _ _) = Lui
operation_of (kind.Auipc _ _) = Auipc
operation_of (kind.Jal _ _) = Jal
operation_of (kind.Jalr _ _ _) = Jalr
operation_of (kind.Branch cond.Eq _ _ _) = Beq
operation_of (kind.Branch cond.Ne _ _ _) = Bne
operation_of (kind.Branch cond.Lt _ _ _) = Blt
operation_of (kind.Branch cond.Ge _ _ _) = Bge
operation_of (kind.Branch cond.Ltu _ _ _) = Bltu
operation_of (kind.Branch cond.Geu _ _ _) = Bgeu
operation_of (kind.Load loads.Lb _ _ _) = Lb
operation_of (kind.Load loads.Lh _ _ _) = Lh
operation_of (kind.Load loads.Lw _ _ _) = Lw
operation_of (kind.Load loads.Lbu _ _ _) = Lbu
operation_of (kind.Load loads.Lhu _ _ _) = Lhu
operation_of (kind.Store width.One _ _ _) = Sb
operation_of (kind.Store width.Two _ _ _) = Sh
operation_of (kind.Store width.Four _ _ _) = Sw
operation_of (kind.OpImm immediate.Addi _ _ _) = Addi
operation_of (kind.OpImm immediate.Slti _ _ _) = Slti
operation_of (kind.OpImm immediate.Sltiu _ _ _) = Sltiu
operation_of (kind.OpImm immediate.Xori _ _ _) = Xori
operation_of (kind.OpImm immediate.Ori _ _ _) = Ori
operation_of (kind.OpImm immediate.Andi _ _ _) = Andi
operation_of (kind.Shift shift.Slli _ _ _) = Slli
operation_of (kind.Shift shift.Srli _ _ _) = Srli
operation_of (kind.Shift shift.Srai _ _ _) = Srai
operation_of (kind.Op alu.Add _ _ _) = Add
operation_of (kind.Op alu.Sll _ _ _) = Sll
operation_of (kind.Op alu.Slt _ _ _) = Slt
operation_of (kind.Op alu.Sltu _ _ _) = Sltu
operation_of (kind.Op alu.Xor _ _ _) = Xor
operation_of (kind.Op alu.Srl _ _ _) = Srl
operation_of (kind.Op alu.Or _ _ _) = Or
operation_of (kind.Op alu.And _ _ _) = And
operation_of (kind.Op alu.Sub _ _ _) = Sub
operation_of (kind.Op alu.Sra _ _ _) = Sra
operation_of (kind.Op alu.Mul _ _ _) = Mul
operation_of (kind.Op alu.Mulh _ _ _) = Mulh
operation_of (kind.Op alu.Mulhsu _ _ _) = Mulhsu
operation_of (kind.Op alu.Mulhu _ _ _) = Mulhu
operation_of (kind.Op alu.Div _ _ _) = Div
operation_of (kind.Op alu.Divu _ _ _) = Divu
operation_of (kind.Op alu.Rem _ _ _) = Rem
operation_of (kind.Op alu.Remu _ _ _) = Remu
operation_of (kind.Fence _ _ _) = Fence
operation_of (kind.FenceI _ _ _) = FenceI
operation_of (kind.Csr csr.Write _ _ _) = Csrrw
operation_of (kind.Csr csr.Set _ _ _) = Csrrs
operation_of (kind.Csr csr.Clear _ _ _) = Csrrc
operation_of (kind.CsrImm csr.Write _ _ _) = Csrrwi
operation_of (kind.CsrImm csr.Set _ _ _) = Csrrsi
operation_of (kind.CsrImm csr.Clear _ _ _) = Csrrci
operation_of kind.Ecall = Ecall
operation_of kind.Ebreak = Ebreak
operation_of kind.Mret = Mret
operation_of kind.Wfi = Wfi

-- ---- the fields, the word and the ranges of a kind

-- the fields of a kind with this operation; those that it doesn't have are 0
abbrev pub laid : Operation → Kind → Fields
laid x (kind.Lui rd imm) = with_fields x rd 0 0 (pos imm)
laid x (kind.Auipc rd imm) = with_fields x rd 0 0 (pos imm)
laid x (kind.Jal rd offset) = with_fields x rd 0 0 offset
laid x (kind.Jalr rd base offset) = with_fields x rd base 0 offset
laid x (kind.Branch _ rs1 rs2 offset) = with_fields x 0 rs1 rs2 offset
laid x (kind.Load _ rd base offset) = with_fields x rd base 0 offset
laid x (kind.Store _ source base offset) = with_fields x 0 base source offset
laid x (kind.OpImm _ rd rs1 imm) = with_fields x rd rs1 0 imm
laid x (kind.Shift _ rd rs1 amount) = with_fields x rd rs1 0 (pos amount)
laid x (kind.Op _ rd rs1 rs2) = with_fields x rd rs1 rs2 (pos 0)
laid x (kind.Fence rd rs1 imm) = with_fields x rd rs1 0 (pos imm)
laid x (kind.FenceI rd rs1 imm) = with_fields x rd rs1 0 (pos imm)
laid x (kind.Csr _ rd rs1 n) = with_fields x rd rs1 0 (pos n)
laid x (kind.CsrImm _ rd imm n) = with_fields x rd imm 0 (pos n)
laid x _ = with_fields x 0 0 0 (pos 0)

unfoldable pub fields_of : Kind → Fields
fields_of k = laid (operation_of k) k

unfoldable pub word : Kind → ℕ
word k = encoded (fields_of k)

-- every field fits its place
abbrev pub IsInRange : Kind → Type 0
IsInRange (kind.Lui rd imm) = (rd < 32) × (imm < 2 ^ 20)
IsInRange (kind.Auipc rd imm) = (rd < 32) × (imm < 2 ^ 20)
IsInRange (kind.Jal rd offset) = (rd < 32) × IsDistance (2 ^ 20) offset
IsInRange (kind.Jalr rd base offset) = (rd < 32) × (base < 32) × IsWithin (2 ^ 11) offset
IsInRange (kind.Branch _ rs1 rs2 offset) = (rs1 < 32) × (rs2 < 32) × IsDistance (2 ^ 12) offset
IsInRange (kind.Load _ rd base offset) = (rd < 32) × (base < 32) × IsWithin (2 ^ 11) offset
IsInRange (kind.Store _ source base offset) = (source < 32) × (base < 32) × IsWithin (2 ^ 11) offset
IsInRange (kind.OpImm _ rd rs1 imm) = (rd < 32) × (rs1 < 32) × IsWithin (2 ^ 11) imm
IsInRange (kind.Shift _ rd rs1 amount) = (rd < 32) × (rs1 < 32) × (amount < 32)
IsInRange (kind.Op _ rd rs1 rs2) = (rd < 32) × (rs1 < 32) × (rs2 < 32)
IsInRange (kind.Fence rd rs1 imm) = (rd < 32) × (rs1 < 32) × (imm < 2 ^ 12)
IsInRange (kind.FenceI rd rs1 imm) = (rd < 32) × (rs1 < 32) × (imm < 2 ^ 12)
IsInRange (kind.Csr _ rd rs1 n) = (rd < 32) × (rs1 < 32) × (n < 2 ^ 12)
IsInRange (kind.CsrImm _ rd imm n) = (rd < 32) × (imm < 32) × (n < 2 ^ 12)
IsInRange k = Unit {0}

-- the same as `Means`, by kinds
unfoldable pub IsMeaning : ℕ → Option Kind → Type 0
IsMeaning w (Some k) = IsInRange k × (word k ≡ w)
IsMeaning w None = (k : Kind) → IsInRange k → word k ≢ w
