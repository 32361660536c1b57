-- To audit: public contracts cite this.
-- The table of instructions: a row for each operation, as in RISC-V Unprivileged ISA 20191213, chapter 24.
use Rattle.std.specs.Prelude.{ℕ, ℤ, List, codes}
use Rattle.rv_isa.specs.declared.op.Operation.{Operation}
use Rattle.rv_isa.specs.declared.op.Operation.TheVariants.{Lui, Auipc, Jal, Jalr, Beq, Bne, Blt, Bge, Bltu, Bgeu, Lb, Lh, Lw, Lbu, Lhu, Sb, Sh, Sw, Addi, Slti, Sltiu, Xori, Ori, Andi, Slli, Srli, Srai, Add, Sll, Slt, Sltu, Xor, Srl, Or, And, Sub, Sra, Mul, Mulh, Mulhsu, Mulhu, Div, Divu, Rem, Remu, Fence, FenceI, Csrrw, Csrrs, Csrrc, Csrrwi, Csrrsi, Csrrci, Ecall, Ebreak, Mret, Wfi}
use Rattle.rv_isa.specs.declared.kind.Kind.{Kind}
use Rattle.rv_isa.specs.declared.kind.Kind.TheVariants as kind
use Rattle.rv_isa.specs.declared.op.Cond.TheVariants as cond
use Rattle.rv_isa.specs.declared.op.LoadOp.TheVariants as loads
use Rattle.rv_isa.specs.declared.op.Width.TheVariants as width
use Rattle.rv_isa.specs.declared.op.ImmOp.TheVariants as immediate
use Rattle.rv_isa.specs.declared.op.ShiftOp.TheVariants as shift
use Rattle.rv_isa.specs.declared.op.AluOp.TheVariants as alu
use Rattle.rv_isa.specs.declared.op.CsrOp.TheVariants as csr

-- A format of section 2.2 with its opcode, its function codes, and the kind that its fields make. I is three
-- formats: `Amount` has the amount of a shift in five bits below funct7, and `Number` an immediate from 0 on:
-- the sets of a fence, or the number of a control register, where rs1 may be a number too (section 9.1).
-- `Whole` is a word without fields.
pub data Encoding : Type 0 where
  R : (opcode funct3 funct7 : ℕ) → (ℕ → ℕ → ℕ → Kind) → Encoding
  Amount : (opcode funct3 funct7 : ℕ) → (ℕ → ℕ → ℕ → Kind) → Encoding
  I : (opcode funct3 : ℕ) → (ℕ → ℕ → ℤ → Kind) → Encoding
  Number : (opcode funct3 : ℕ) → (ℕ → ℕ → ℕ → Kind) → Encoding
  S : (opcode funct3 : ℕ) → (ℕ → ℕ → ℤ → Kind) → Encoding
  B : (opcode funct3 : ℕ) → (ℕ → ℕ → ℤ → Kind) → Encoding
  U : (opcode : ℕ) → (ℕ → ℕ → Kind) → Encoding
  J : (opcode : ℕ) → (ℕ → ℤ → Kind) → Encoding
  Whole : (word : ℕ) → Kind → Encoding

-- the mnemonic of each operation, and its encoding
abbrev pub row : Operation → List ℕ × Encoding
-- LUI, AUIPC, JAL, JALR (sections 2.4 and 2.5)
row Lui = (codes "lui", U 0x37 kind.Lui)
row Auipc = (codes "auipc", U 0x17 kind.Auipc)
row Jal = (codes "jal", J 0x6f kind.Jal)
row Jalr = (codes "jalr", I 0x67 0 kind.Jalr)
-- BRANCH (section 2.5)
row Beq = (codes "beq", B 0x63 0 (kind.Branch cond.Eq))
row Bne = (codes "bne", B 0x63 1 (kind.Branch cond.Ne))
row Blt = (codes "blt", B 0x63 4 (kind.Branch cond.Lt))
row Bge = (codes "bge", B 0x63 5 (kind.Branch cond.Ge))
row Bltu = (codes "bltu", B 0x63 6 (kind.Branch cond.Ltu))
row Bgeu = (codes "bgeu", B 0x63 7 (kind.Branch cond.Geu))
-- LOAD and STORE (section 2.6)
row Lb = (codes "lb", I 0x03 0 (kind.Load loads.Lb))
row Lh = (codes "lh", I 0x03 1 (kind.Load loads.Lh))
row Lw = (codes "lw", I 0x03 2 (kind.Load loads.Lw))
row Lbu = (codes "lbu", I 0x03 4 (kind.Load loads.Lbu))
row Lhu = (codes "lhu", I 0x03 5 (kind.Load loads.Lhu))
row Sb = (codes "sb", S 0x23 0 (kind.Store width.One))
row Sh = (codes "sh", S 0x23 1 (kind.Store width.Two))
row Sw = (codes "sw", S 0x23 2 (kind.Store width.Four))
-- OP-IMM (section 2.4)
row Addi = (codes "addi", I 0x13 0 (kind.OpImm immediate.Addi))
row Slti = (codes "slti", I 0x13 2 (kind.OpImm immediate.Slti))
row Sltiu = (codes "sltiu", I 0x13 3 (kind.OpImm immediate.Sltiu))
row Xori = (codes "xori", I 0x13 4 (kind.OpImm immediate.Xori))
row Ori = (codes "ori", I 0x13 6 (kind.OpImm immediate.Ori))
row Andi = (codes "andi", I 0x13 7 (kind.OpImm immediate.Andi))
row Slli = (codes "slli", Amount 0x13 1 0x00 (kind.Shift shift.Slli))
row Srli = (codes "srli", Amount 0x13 5 0x00 (kind.Shift shift.Srli))
row Srai = (codes "srai", Amount 0x13 5 0x20 (kind.Shift shift.Srai))
-- OP (section 2.4, and from MUL on chapter 7)
row Add = (codes "add", R 0x33 0 0x00 (kind.Op alu.Add))
row Sll = (codes "sll", R 0x33 1 0x00 (kind.Op alu.Sll))
row Slt = (codes "slt", R 0x33 2 0x00 (kind.Op alu.Slt))
row Sltu = (codes "sltu", R 0x33 3 0x00 (kind.Op alu.Sltu))
row Xor = (codes "xor", R 0x33 4 0x00 (kind.Op alu.Xor))
row Srl = (codes "srl", R 0x33 5 0x00 (kind.Op alu.Srl))
row Or = (codes "or", R 0x33 6 0x00 (kind.Op alu.Or))
row And = (codes "and", R 0x33 7 0x00 (kind.Op alu.And))
row Sub = (codes "sub", R 0x33 0 0x20 (kind.Op alu.Sub))
row Sra = (codes "sra", R 0x33 5 0x20 (kind.Op alu.Sra))
row Mul = (codes "mul", R 0x33 0 0x01 (kind.Op alu.Mul))
row Mulh = (codes "mulh", R 0x33 1 0x01 (kind.Op alu.Mulh))
row Mulhsu = (codes "mulhsu", R 0x33 2 0x01 (kind.Op alu.Mulhsu))
row Mulhu = (codes "mulhu", R 0x33 3 0x01 (kind.Op alu.Mulhu))
row Div = (codes "div", R 0x33 4 0x01 (kind.Op alu.Div))
row Divu = (codes "divu", R 0x33 5 0x01 (kind.Op alu.Divu))
row Rem = (codes "rem", R 0x33 6 0x01 (kind.Op alu.Rem))
row Remu = (codes "remu", R 0x33 7 0x01 (kind.Op alu.Remu))
-- MISC-MEM (section 2.7 and chapter 3)
row Fence = (codes "fence", Number 0x0f 0 kind.Fence)
row FenceI = (codes "fence.i", Number 0x0f 1 kind.FenceI)
-- SYSTEM (section 9.1, section 2.8, and Privileged Architecture 20211203, sections 3.3.2 and 3.3.3)
row Csrrw = (codes "csrrw", Number 0x73 1 (kind.Csr csr.Write))
row Csrrs = (codes "csrrs", Number 0x73 2 (kind.Csr csr.Set))
row Csrrc = (codes "csrrc", Number 0x73 3 (kind.Csr csr.Clear))
row Csrrwi = (codes "csrrwi", Number 0x73 5 (kind.CsrImm csr.Write))
row Csrrsi = (codes "csrrsi", Number 0x73 6 (kind.CsrImm csr.Set))
row Csrrci = (codes "csrrci", Number 0x73 7 (kind.CsrImm csr.Clear))
row Ecall = (codes "ecall", Whole 0x00000073 kind.Ecall)
row Ebreak = (codes "ebreak", Whole 0x00100073 kind.Ebreak)
row Mret = (codes "mret", Whole 0x30200073 kind.Mret)
row Wfi = (codes "wfi", Whole 0x10500073 kind.Wfi)

-- the mnemonic of an operation
unfoldable pub mnemonic : Operation → List ℕ
mnemonic operation = (row operation).0
