-- What each statement stands for: a table with a row a statement.
-- To audit: public contracts cite this.
-- The language is this project's own: docs/ASSEMBLER.md.
use Rattle.std.specs.Prelude.{ℕ, ◌*◌, ◌/◌, ◌%◌, ◌^◌, Bool, true, false, ◌&&◌, ◌==◌, length, take, List, [], ◌∷◌, ◌++◌, replicate, ℤ, pos, negsuc, Option, Some, None, is_none, option_and_then, Result, Ok, Err, if◌then◌else◌}
use Rattle.std.specs.Option.{option_map, option_map_or, unwrap_or}
use Rattle.std.specs.List.{flat_map, list_any}
use Rattle.std.specs.Int.{to_le_bytes, w32}
use Rattle.rv_base.specs.Limits.{image_limit}
use Rattle.rv_isa.specs.Number.{modulo}
use Rattle.rv_isa.specs.Width.{bytes_of}
use Rattle.rv_isa.specs.Word.{word}
use Rattle.rv_isa.specs.declared.kind.Kind.{Kind}
use Rattle.rv_isa.specs.declared.kind.Kind.TheVariants.{Lui, Auipc, Jal, Jalr, Branch, Load, Store, OpImm, Shift, CsrImm}
use Rattle.rv_isa.specs.declared.op.ImmOp.TheVariants.{Addi}
use Rattle.rv_isa.specs.declared.op.Width.{Width}
pub use Rattle.rv_tokens.specs.Faults.{◌>>=◌}
use Rattle.rv_source.specs.declared.operand.Operand.{Operand}
use Rattle.rv_source.specs.declared.statement.Statement.{Statement}
use Rattle.rv_source.specs.declared.statement.Statement.TheVariants as s
use Rattle.rv_program.specs.declared.fault.FaultKind.{FaultKind}
use Rattle.rv_program.specs.declared.fault.FaultKind.TheVariants.{Undefined, OutOfRange}
use Rattle.rv_asm.specs.Values.{is_between, is_word, fits, immediate, field, distance, hi, lo, part_value, far_distance, loading, gap}

-- ---- instructions

-- The fixup of an instruction at an address: the instruction with a value in the field of its immediate. None
-- if the value isn't in the range of the field, or there is no such field.
unfoldable pub filled : ℕ → Kind → ℤ → Option Kind
filled here (Lui rd imm) v = option_map (λ x. Lui rd x) (field (negsuc 524287) (pos 1048575) 20 v)
filled here (Auipc rd imm) v = option_map (λ x. Auipc rd x) (field (negsuc 524287) (pos 1048575) 20 v)
filled here (Jal rd offset) v = option_map (λ x. Jal rd x) (distance (2 ^ 20) here v)
filled here (Jalr rd base offset) v = option_map (λ x. Jalr rd base x) (immediate v)
filled here (Branch cond rs1 rs2 _) v = option_map (λ x. Branch cond rs1 rs2 x) (distance (2 ^ 12) here v)
filled here (Load op rd base offset) v = option_map (λ x. Load op rd base x) (immediate v)
filled here (Store width source base offset) v = option_map (λ x. Store width source base x) (immediate v)
filled here (OpImm op rd rs1 imm) v = option_map (λ x. OpImm op rd rs1 x) (immediate v)
filled here (Shift op rd rs1 amount) v = option_map (λ x. Shift op rd rs1 x) (field (pos 0) (pos 31) 5 v)
filled here (CsrImm op rd imm csr) v = option_map (λ x. CsrImm op rd x csr) (field (pos 0) (pos 31) 5 v)
filled here kind v = None

-- the word of each instruction in four bytes, lowest first
-- RISC-V Unprivileged ISA 20191213, sections 1.5 and 2.2
abbrev pub bytes : List Kind → List ℕ
bytes = flat_map (λ k. to_le_bytes w32 (word k))

-- the bytes of some instructions, the last of which has a value in its field
abbrev pub code : ℕ → List Kind → Kind → ℤ → Option (List ℕ)
code here before kind v = option_map (λ k. bytes (before ++ k ∷ [])) (filled here kind v)

-- ---- data

-- the low bytes of a value that fits into a width, as many as the width has, lowest first
abbrev pub bytes_in : Width → ℤ → Option (List ℕ)
bytes_in width v =
    if fits width v then Some (take (bytes_of width) (to_le_bytes w32 (modulo v (2 ^ 32)))) else None

-- n bytes of padding, up to a multiple of a power of two: zeros up to a multiple of 4 or the end, then `nop`
-- instructions
unfoldable pub padding : ℕ → List ℕ
padding n = replicate (n % 4) 0 ++ bytes (replicate (n / 4) (OpImm Addi 0 0 (pos 0)))

-- a power of two from 1 to 4096
abbrev pub is_multiple : ℤ → Bool
is_multiple v = is_between (pos 1) (pos 4096) v && (4096 % modulo v (2 ^ 32) == 0)

-- ---- statements

-- What a statement stands for at an address: whether the values are known, and in their ranges, that its size
-- or a name depends on; of what its address has to be a multiple; the name that it defines, with its value;
-- the number of its bytes; and the bytes, once all symbols are known, or its fault in phase three.
pub record Emitted : Type 0 where
  pub is_known : Bool
  pub alignment : ℕ
  pub defines : List (List ℕ × ℤ)
  pub size : ℕ
  pub contents : (Operand → Option ℤ) → Result (List ℕ) FaultKind

-- bytes that wait for nothing
abbrev pub ready : ℕ → List ℕ → Emitted
ready alignment bs = record
    { is_known = true; alignment = alignment; defines = []; size = length bs; contents = λ late. Ok bs }

-- the bytes of each operand's value in its place; an undefined value is reported before one that is out of
-- range
abbrev pub placed : (ℤ → Option (List ℕ)) → List Operand → (Operand → Option ℤ) → Result (List ℕ) FaultKind
placed place xs value =
    let bytes = λ (x : Operand). option_and_then place (value x) in
    if list_any (λ x. is_none (value x)) xs then Err Undefined
    else (if list_any (λ x. is_none (bytes x)) xs then Err OutOfRange
    else Ok (flat_map (λ x. unwrap_or (bytes x) []) xs))

-- n bytes for each operand, by its value
abbrev pub waiting : ℕ → ℕ → (ℤ → Option (List ℕ)) → List Operand → Emitted
waiting alignment n place xs = record (ready alignment []) { size = n * length xs; contents = placed place xs }

-- n times the byte that fills a space, which is 0 if none is given
abbrev pub space : ℕ → Option Operand → Emitted
space n None = ready 1 (replicate n 0)
space n (Some fill) = waiting 1 n (λ v. option_map (replicate n) (field (negsuc 127) (pos 255) 8 v)) (fill ∷ [])

-- what depends on a value, as a word, that must be known on the line of the statement and pass a test
abbrev pub asking : Option ℤ → (ℤ → Bool) → (ℕ → Emitted) → Emitted
asking v test of_word = record (of_word (modulo (unwrap_or v (pos 0)) (2 ^ 32))) { is_known = option_map_or test v false }

-- each statement by the values that its operands have on its line
unfoldable pub emitted : (Operand → Option ℤ) → ℕ → Statement → Emitted
emitted early here (s.Instruction kind) = ready 4 (bytes (kind ∷ []))
emitted early here (s.WithValue kind x) =
    waiting 4 4 (λ v. option_and_then (code here [] kind) (part_value x.form v)) (x ∷ [])
emitted early here (s.Far scratch kind x) = waiting 4 8
    (λ v. option_and_then (λ d. code here (Auipc scratch (hi d) ∷ []) kind (lo d)) (far_distance here v)) (x ∷ [])
emitted early here (s.Li rd x) = asking (early x) is_word (λ w. ready 4 (bytes (loading rd w)))
emitted early here (s.Data width xs) = waiting 1 (bytes_of width) (bytes_in width) xs
emitted early here (s.Bytes bs) = ready 1 bs
emitted early here (s.Space size fill) = asking (early size) (is_between (pos 0) (pos image_limit)) (λ n. space n fill)
emitted early here (s.Align power) =
    asking (early power) (is_between (pos 0) (pos 12)) (λ n. ready 1 (padding (gap here (2 ^ n))))
emitted early here (s.Balign multiple) = asking (early multiple) is_multiple (λ n. ready 1 (padding (gap here n)))
emitted early here (s.Constant name x) =
    asking (early x) is_word (λ w. record (ready 1 []) { defines = (name, unwrap_or (early x) (pos 0)) ∷ [] })
emitted early here s.Marker = ready 1 []
